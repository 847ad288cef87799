-- `literals::bit_length` meets its contract.
use mathlib.Core.Path.{sym, ◌∙◌}
use Rattle.literals.specs.Literals.{bit_length}
use Rattle.literals.proofs.bit_length.Goals as goal

pub returns : goal.returns
unfolding bit_length
returns c = rw (sym c.eq.ensures ∙ c.if-eq.false, sym c.eq-2.ensures ∙ c.if-eq-2.false)

pub returns-then-eq : goal.returns-then-eq
unfolding bit_length
returns-then-eq c = rw (sym c.eq.ensures ∙ c.if-eq.true, c.saturating_sub.ensures)

pub returns-then-eq-2 : goal.returns-then-eq-2
unfolding bit_length
returns-then-eq-2 c = rw (sym c.eq.ensures ∙ c.if-eq.false, sym c.eq-2.ensures ∙ c.if-eq-2.true, c.saturating_sub-then-eq-2.ensures)
