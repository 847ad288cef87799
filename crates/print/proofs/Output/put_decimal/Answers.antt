-- `Output::put_decimal` meets its contract: `decimal` is `digits` with room for twenty.
use Rattle.print.specs.Text.{decimal}
use Rattle.print.proofs.Output.put_decimal.Goals as goal

pub put_digits-requires : goal.put_digits-requires
unfolding decimal
put_digits-requires c = c.requires

pub returns : goal.returns
unfolding decimal
returns c = c.put_digits.ensures
