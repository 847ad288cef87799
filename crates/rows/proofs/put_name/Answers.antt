-- `rows::put_name` meets its contract.
use Rattle.rows.proofs.Pieces.{same_fits, same_adds}
use Rattle.rows.proofs.Single.{name_none, name_some}
use Rattle.rows.proofs.put_name.Goals as goal

pub put-requires : goal.put-requires
put-requires c = (same_fits (name_none _ _ c.if-name-eq0.true) c.requires).fits

pub put_word-requires : goal.put_word-requires
put_word-requires c = same_fits (name_some _ _ c.if-name-eq0.false c.name_text.ensures) c.requires

pub returns-else-name-eq0 : goal.returns-else-name-eq0
returns-else-name-eq0 c = same_adds (name_some _ _ c.if-name-eq0.false c.name_text.ensures) c.put_word.ensures

pub returns-then-name-eq0 : goal.returns-then-name-eq0
returns-then-name-eq0 c = same_adds (name_none _ _ c.if-name-eq0.true) c.put.ensures
