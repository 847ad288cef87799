-- `resolve::resolve_names` meets its contract: the tables before the walk and after it. Assumes nothing.
use Rattle.resolve.proofs.Ends.{resolve_all}
use Rattle.resolve.proofs.resolve_names.Goals as goal

pub returns : goal.returns
returns c = resolve_all _ _ _ _ _ _ _ _ _ _ _ _ _ c.requires.1 c.requires.2 c.clear.ensures c.walk_names-made.ensures c.count_parents.ensures c.clear-2.ensures
