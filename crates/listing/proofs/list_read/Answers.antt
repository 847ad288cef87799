-- `listing::list_read` meets its contract: by whether there is room for the text.
use Rattle.listing.proofs.Texts.{listed_all, listed_none}
use Rattle.listing.proofs.list_read.Goals as goal

pub returns : goal.returns
returns c =
    let q = listed_none _ _ _ c.has_room.ensures c.if-has_room.false in
    record { answer = q.0; output = q.1 }

pub returns-then-has_room : goal.returns-then-has_room
returns-then-has_room c =
    let q = listed_all _ _ _ _ _ c.has_room.ensures c.if-has_room.true c.list_answer.ensures in
    record { answer = q.0; output = q.1 }
