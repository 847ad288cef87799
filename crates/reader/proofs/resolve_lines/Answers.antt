-- `reader::resolve_lines` meets its contract: by steps 1 and 2, and the errors of nodes.
use Rattle.reader.proofs.Steps.{all_three}
use Rattle.reader.proofs.resolve_lines.Goals as goal

pub returns : goal.returns
returns c = λ ls h. all_three _ _ _ _ _ _ _ _ _ _ _ _ _ ls _ _ _ _ h (c.enter_names-entered.ensures ls h) (c.resolve_names-made.ensures ls) c.node_errors-met.ensures
