-- `tables::write` meets its contract. Assumes nothing.
use mathlib.Core.Path.{sym, ◌∙◌}
use native.Mathlib.Omega.{arith}
use Rattle.tables.proofs.Words.{written_none, written_here}
use Rattle.tables.proofs.write.Goals as goal

pub returns-else-is_number : goal.returns-else-is_number
returns-else-is_number c = sym (written_none _ _ _ _ (sym c.is_number.ensures ∙ c.if-is_number.false))

pub returns-then-is_number : goal.returns-then-is_number
returns-then-is_number c =
    written_here _ _ _ _ _ _ _ (sym c.is_number.ensures ∙ c.if-is_number.true) c.begin.ensures.0
    (omega arith) c.put.ensures
