-- `sheets::fill_sheet` meets its contract: the bytes of the answer.
use mathlib.Core.Path.{ap, ◌∙◌}
use Rattle.sheets.specs.Sheet.{bytes_of}
use Rattle.sheets.proofs.Filled.{inside}
use Rattle.sheets.proofs.fill_sheet.Goals as goal

pub returns : goal.returns
returns c =
    let count = c.bytes_of.ensures ∙ ap bytes_of c.fill-answer.ensures.answer in
    record { count = count; output = c.fill-answer.ensures.output; inside = inside _ _ _ _ count c.fill-answer.ensures.output }
