-- `literals::bin_byte` meets its contract: two nibbles of binary digits.
use mathlib.Core.Path.{sym}
use Rattle.literals.proofs.Packed.{bin_packed}
use Rattle.literals.proofs.bin_byte.Goals as goal

pub returns : goal.returns
returns c = rw (c.bin_nibble.ensures.0, c.bin_nibble-2.ensures.0) (sym (bin_packed _ _))
