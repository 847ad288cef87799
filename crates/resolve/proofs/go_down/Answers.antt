-- `resolve::go_down` meets its contract: by what the walk comes to. Assumes nothing.
use mathlib.Core.Path.{sym, ◌∙◌}
use borrow.Author.Tests.{eqb-true, eqb-false}
use Rattle.resolve.proofs.Turning.{down_none, down_part}
use Rattle.resolve.proofs.go_down.Goals as goal

pub returns : goal.returns
returns c = λ u. down_part _ _ _ _ _ _ _ _ _ _ _ _ _ _ u c.if-expr-name.false c.word-kind.ensures (eqb-false _ _ (sym c.eq.ensures ∙ c.if-eq.false)) c.next_number-number.ensures c.write_record.ensures c.word-right.ensures c.going_down.ensures

pub returns-then-expr-name : goal.returns-then-expr-name
returns-then-expr-name c = λ u. down_none _ _ _ _ _ _ _ _ _ _ u c.if-expr-name.true c.coming_up.ensures

-- a reference
pub returns-then-eq : goal.returns-then-eq
returns-then-eq c = λ u. c.refer.ensures u (sym c.word-kind.ensures ∙ eqb-true _ _ (sym c.eq.ensures ∙ c.if-eq.true))
