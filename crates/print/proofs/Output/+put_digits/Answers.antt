-- `Output::put_digits` meets its contract: by the room, then by the number. Assumes nothing.
use native.Mathlib.Omega.{arith}
use Rattle.print.proofs.Digits.{adds_none, fits_one, adds_one, fits_more, fits_last, adds_more}
use Rattle.print.proofs.Output.+put_digits.Goals as goal

pub returns-then-room-eq0 : goal.returns-then-room-eq0
returns-then-room-eq0 t c = adds_none _ _ _ c.if-room-eq0.true

pub put_byte-requires : goal.put_byte-requires
put_byte-requires t c = fits_one _ _ c.if-room-eq0.false _ c.if-number-lt-RADIX.true c.requires

pub returns-then-number-lt-RADIX : goal.returns-then-number-lt-RADIX
returns-then-number-lt-RADIX t c = adds_one _ _ c.if-room-eq0.false c.if-number-lt-RADIX.true c.digit.ensures c.put_byte.ensures

pub put_digits-requires : goal.put_digits-requires
put_digits-requires t c = (omega (arith, c.decreases, c.if-room-eq0.false), fits_more _ _ c.if-room-eq0.false _ c.if-number-lt-RADIX.false c.requires)

pub put_byte-requires-else-number-lt-RADIX : goal.put_byte-requires-else-number-lt-RADIX
put_byte-requires-else-number-lt-RADIX t c = fits_last _ _ c.if-room-eq0.false c.if-number-lt-RADIX.false c.put_digits.ensures c.requires

pub returns-else-number-lt-RADIX : goal.returns-else-number-lt-RADIX
returns-else-number-lt-RADIX t c =
    adds_more _ _ c.if-room-eq0.false c.if-number-lt-RADIX.false
    c.put_digits.ensures c.digit-else-number-lt-RADIX.ensures c.put_byte-else-number-lt-RADIX.ensures
