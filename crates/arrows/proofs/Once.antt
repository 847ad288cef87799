-- The contracts of `parse_arrow` and `parse_optional_arrow` leave one answer only. Assumes nothing.
use Prim.Native.Nat.{ℕ, ◌+◌}
use mathlib.Core.Path.{◌≡◌, sym, ap, ◌∙◌}
use mathlib.Core.List.{List}
use Rattle.cursor.specs.declared.Cursor.{Cursor}
use Rattle.cursor.proofs.Reached.{reached_once}
use Rattle.grammar.specs.Tree.{Arrow}
use Rattle.grammar.specs.Rule.{Parsed, got, stop}
use Rattle.grammar.specs.Recorded.{type_weight, type_no}
use Rattle.arrows.specs.Answers.{ArrowReads}
use Rattle.cursor.specs.Cursor.{Answer}
use Rattle.records.specs.declared.numbers.TypeNo.{TypeNo}
use Rattle.std.specs.Prelude.{Ok}

module _ (s t : List ℕ) (n : ℕ) (c : Cursor) (old : List ℕ) where
  pub arrow_once : (P : Parsed Arrow) (r q : Answer (TypeNo × TypeNo)) (new end : List ℕ) → ArrowReads s t n c P r old new → ArrowReads s t n c P q old end → r ≡ q
  arrow_once (stop x rest) r q new end h k = h.0 ∙ sym k.0
  arrow_once (got a rest) r q new end h k =
      h.1
      ∙ ap (λ (d : Cursor). Ok (((record { 0 = type_no a.source c.ty.0 }), (record { 0 = type_no a.target (c.ty.0 + type_weight a.source) })), d))
      (reached_once s t n c h.0 k.0 rest 0 (type_weight a.source + type_weight a.target) h.2 k.2)
      ∙ sym k.1
