-- `classes::stands` meets its contract.
use Rattle.classes.proofs.Laws.{starts_word}
use mathlib.Core.Path.{sym, ◌∙◌}
use Rattle.classes.proofs.stands.Goals as goal

pub returns : goal.returns
returns c = c.starts_with.ensures.value ∙ sym (starts_word _ _)
