-- `rows::put_root` meets its contract.
use Rattle.print.proofs.Putting.{adds_nothing}
use Rattle.rows.proofs.Pieces.{same_fits, same_adds}
use Rattle.rows.proofs.Single.{root_none, root_some}
use Rattle.rows.proofs.put_root.Goals as goal

pub put_word-requires : goal.put_word-requires
put_word-requires c = same_fits (root_some _ _ _ _ _ _ c.is_root.ensures c.if-is_root.true c.name_text-text.ensures) c.requires

pub returns-then-is_root : goal.returns-then-is_root
returns-then-is_root c = same_adds (root_some _ _ _ _ _ _ c.is_root.ensures c.if-is_root.true c.name_text-text.ensures) c.put_word.ensures

pub returns-else-is_root : goal.returns-else-is_root
returns-else-is_root c = same_adds (root_none _ _ _ _ _ _ c.is_root.ensures c.if-is_root.false) (adds_nothing _)
