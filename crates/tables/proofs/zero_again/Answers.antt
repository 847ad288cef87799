-- `tables::zero_again` meets its contract: words that are zero already are what they would be set to.
use mathlib.Core.Path.{sym, ◌∙◌}
use Rattle.tables.proofs.Zeros.{zeroed_same}
use Rattle.tables.proofs.zero_again.Goals as goal

pub returns-else-not-is_zero : goal.returns-else-not-is_zero
returns-else-not-is_zero c = sym (zeroed_same _ _ _ c.requires.1 (sym c.is_zero.ensures ∙ c.if-not-is_zero.false))
