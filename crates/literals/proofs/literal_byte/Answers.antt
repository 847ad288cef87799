-- `literals::literal_byte` meets its contract.
use mathlib.Core.Path.{sym, ◌∙◌}
use Rattle.literals.proofs.Packed.{span_outside, span_inside}
use Rattle.literals.proofs.literal_byte.Goals as goal

pub returns : goal.returns
returns c = c.text_byte.ensures ∙ sym (span_inside _ _ _ c.if-source-end.false)

pub returns-then-source-end : goal.returns-then-source-end
returns-then-source-end c = sym (span_outside _ _ _ c.if-source-end.true)
