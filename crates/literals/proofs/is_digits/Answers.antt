-- `literals::is_digits` meets its contract.
use Rattle.literals.proofs.Packed.{digits_by_run}
use Rattle.literals.proofs.is_digits.Goals as goal

pub returns : goal.returns
returns c = rw (c.stands.ensures, c.run.ensures.0) (digits_by_run _ _ _)
