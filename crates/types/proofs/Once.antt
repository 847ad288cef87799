-- The contract of `parse_type` leaves one answer only; and one table, where the type is read. Assumes nothing.
use Prim.Native.Nat.{ℕ}
use mathlib.Core.Path.{◌≡◌, sym, ap, ◌∙◌}
use mathlib.Core.List.{List}
use Rattle.lex.specs.Tokens.{Token}
use Rattle.cursor.specs.declared.Cursor.{Cursor}
use Rattle.cursor.proofs.Reached.{reached_once}
use Rattle.grammar.specs.Tree.{Ty}
use Rattle.grammar.specs.Rule.{Parsed, got, stop}
use Rattle.grammar.specs.Recorded.{type_weight, type_no}
use Rattle.types.specs.Answers.{TypeReads}
use Rattle.cursor.specs.Cursor.{Answer}
use Rattle.records.specs.declared.numbers.TypeNo.{TypeNo}
use Rattle.std.specs.Prelude.{Ok}

module _ (s t : List ℕ) (n : ℕ) (c : Cursor) (old : List ℕ) where
  pub type_once : (P : Parsed Ty) (r q : Answer TypeNo) (new end : List ℕ) → TypeReads s t n c P r old new → TypeReads s t n c P q old end → r ≡ q
  type_once (stop x rest) r q new end h k = h.0 ∙ sym k.0
  type_once (got x rest) r q new end h k = h.1 ∙ ap (λ (d : Cursor). Ok ((record { 0 = type_no x c.ty.0 }), d)) (reached_once s t n c h.0 k.0 rest 0 (type_weight x) h.2 k.2) ∙ sym k.1

  pub type_table_once : (x : Ty) (rest : List Token) (r q : Answer TypeNo) (new end : List ℕ) → TypeReads s t n c (got x rest) r old new → TypeReads s t n c (got x rest) q old end → new ≡ end
  type_table_once x rest r q new end h k = h.3 ∙ sym k.3
