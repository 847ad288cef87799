-- `rows::put_head` meets its contract.
use Rattle.rows.proofs.Pieces.{first_fits, rest_fits, adds_then}
use Rattle.rows.proofs.put_head.Goals as goal

pub put_number-requires : goal.put_number-requires
put_number-requires c = rest_fits c.put_word.ensures c.requires

pub put_word-requires : goal.put_word-requires
put_word-requires c = first_fits _ c.requires

pub returns : goal.returns
returns c = adds_then c.put_word.ensures c.put_number.ensures
