-- `literals::hex_byte` meets its contract: a hex digit is at most 15.
use mathlib.Core.Path.{sym}
use Rattle.literals.proofs.Packed.{hex_packed}
use Rattle.literals.proofs.hex_byte.Goals as goal

pub returns : goal.returns
returns c = rw (c.value_at.ensures, c.value_at-2.ensures) (sym (hex_packed _ _))
