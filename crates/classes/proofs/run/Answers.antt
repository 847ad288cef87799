-- `classes::run` meets its contract: the chain counts the bytes of the class from the front of the part on.
use Rattle.std.proofs.Common.{rules, tests}
use Rattle.std.proofs.lemmas.Iterator.{YieldsList-from_slice}
use Rattle.std.proofs.lemmas.Iterator.Consumers.{count_from_yields_List}
use Rattle.std.proofs.lemmas.Iterator.Search.{YieldsList-from_take_while}
use Rattle.classes.specs.Classes.{has}
use Rattle.classes.proofs.Laws.{run_counted}
use Rattle.classes.proofs.run.Goals as goal

pub returns : goal.returns
returns c =
    run_counted c.args.c c.args.s.now c.args.at _ _ c.min.ensures
    (count_from_yields_List _ _ c.count.ensures.ran
    (YieldsList-from_take_while _ (λ b. has c.args.c b) (YieldsList-from_slice _ (cc)) c.take_while.ensures.closure c.take_while.ensures.done (λ x b q k. search (rules, tests))))
