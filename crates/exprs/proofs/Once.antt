-- The contract of `parse_expr` leaves one answer only; and one table, where the expression is read. Assumes nothing.
use Prim.Native.Nat.{ℕ}
use mathlib.Core.Path.{◌≡◌, sym, ap, ◌∙◌}
use mathlib.Core.List.{List}
use Rattle.lex.specs.Tokens.{Token}
use Rattle.cursor.specs.declared.Cursor.{Cursor}
use Rattle.cursor.proofs.Reached.{reached_once}
use Rattle.grammar.specs.Tree.{Expr}
use Rattle.grammar.specs.Rule.{Parsed, got, stop}
use Rattle.grammar.specs.Part.{part_of, weight}
use Rattle.grammar.specs.Recorded.{part_no}
use Rattle.exprs.specs.Answers.{ExprReads}
use Rattle.cursor.specs.Cursor.{Answer}
use Rattle.records.specs.declared.numbers.ExprNo.{ExprNo}
use Rattle.std.specs.Prelude.{Ok}

module _ (s t : List ℕ) (n : ℕ) (c : Cursor) (old : List ℕ) where
  pub expr_once : (P : Parsed Expr) (r q : Answer ExprNo) (new end : List ℕ) → ExprReads s t n c P r old new → ExprReads s t n c P q old end → r ≡ q
  unfolding ExprReads
  expr_once (stop x rest) r q new end h k = h.0 ∙ sym k.0
  expr_once (got e rest) r q new end h k = h.1 ∙ ap (λ (d : Cursor). Ok ((record { 0 = part_no (part_of e) c.expr.0 }), d)) (reached_once s t n c h.0 k.0 rest (weight (part_of e)) 0 h.2 k.2) ∙ sym k.1

  pub expr_table_once : (e : Expr) (rest : List Token) (r q : Answer ExprNo) (new end : List ℕ) → ExprReads s t n c (got e rest) r old new → ExprReads s t n c (got e rest) q old end → new ≡ end
  unfolding ExprReads
  expr_table_once e rest r q new end h k = h.3 ∙ sym k.3
