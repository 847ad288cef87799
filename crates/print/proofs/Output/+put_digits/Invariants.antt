-- `Output::put_digits` meets its contract. The measure is the room.
use Rattle.print.proofs.Output.+put_digits.Given as goal

abbrev pub decreases-put_digits : goal.decreases-put_digits
decreases-put_digits l = l.room
