-- `listing::list` meets its contract: what is read is listed.
use Rattle.listing.proofs.Texts.{text_is, text_fits, listed_as}
use Rattle.listing.proofs.list.Goals as goal

pub list_read-requires : goal.list_read-requires
list_read-requires c = text_fits _ _ _ _ _ c.read-answer.ensures.answer c.read-answer.ensures.tables

pub returns : goal.returns
returns c =
    let d = listed_as _ _ _ _ _ (text_is _ _ _ _ _ c.read-answer.ensures.answer c.read-answer.ensures.tables) c.list_read.ensures.answer c.list_read.ensures.output in
    record { answer = d.0; output = d.1; tables = c.read-answer.ensures.tables }
