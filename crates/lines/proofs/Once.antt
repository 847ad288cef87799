-- The contract of `parse_line` leaves one answer only; and one table of each, where the line is read. Assumes nothing.
use Prim.Native.Nat.{ℕ}
use mathlib.Core.Path.{◌≡◌, sym, ap, ◌∙◌}
use mathlib.Core.List.{List}
use Rattle.lex.specs.Tokens.{Token}
use Rattle.cursor.specs.declared.Cursor.{Cursor}
use Rattle.cursor.proofs.Reached.{reached_once}
use Rattle.grammar.specs.Tree.{Line}
use Rattle.grammar.specs.Rule.{Parsed, got, stop}
use Rattle.grammar.specs.Recorded.{exprs_of, types_in_line, line_record}
use Rattle.lines.specs.Answers.{LineReads}
use Rattle.cursor.specs.Cursor.{Answer}
use Rattle.records.specs.declared.LineRecord.{LineRecord}
use Rattle.std.specs.Prelude.{Ok}

module _ (s t : List ℕ) (n : ℕ) (c : Cursor) (es ty : List ℕ) where
  pub line_once : (P : Parsed Line) (r q : Answer LineRecord) (es' es'' ty' ty'' : List ℕ) → LineReads s t n c P r es es' ty ty' → LineReads s t n c P q es es'' ty ty'' → r ≡ q
  line_once (stop x rest) r q es' es'' ty' ty'' h k = h.0 ∙ sym k.0
  line_once (got l rest) r q es' es'' ty' ty'' h k = h.1 ∙ ap (λ (d : Cursor). Ok ((line_record l c.expr.0 c.ty.0), d)) (reached_once s t n c h.0 k.0 rest (exprs_of l) (types_in_line l) h.2 k.2) ∙ sym k.1

  pub line_tables_once : (l : Line) (rest : List Token) (r q : Answer LineRecord) (es' es'' ty' ty'' : List ℕ) → LineReads s t n c (got l rest) r es es' ty ty' → LineReads s t n c (got l rest) q es es'' ty ty'' → (es' ≡ es'') × (ty' ≡ ty'')
  line_tables_once l rest r q es' es'' ty' ty'' h k = (h.4 ∙ sym k.4, h.5 ∙ sym k.5)
