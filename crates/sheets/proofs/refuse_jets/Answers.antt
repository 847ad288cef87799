-- `sheets::refuse_jets` meets its contract: by whether there is room.
use Rattle.std.proofs.Common.{rules}
use Rattle.print.proofs.Putting.{whole_puts}
use Rattle.sheets.proofs.Filled.{refused_all, refused_none}
use Rattle.sheets.proofs.refuse_jets.Goals as goal

pub returns-else-out-lt-REFUSED : goal.returns-else-out-lt-REFUSED
returns-else-out-lt-REFUSED c =
    let q = refused_all _ _ _ c.if-out-lt-REFUSED.false (whole_puts c.new-output.ensures c.put.ensures (search rules) c.place.ensures) in
    record { answer = q.0; output = q.1 }

pub returns-then-out-lt-REFUSED : goal.returns-then-out-lt-REFUSED
returns-then-out-lt-REFUSED c =
    let q = refused_none _ c.if-out-lt-REFUSED.true in
    record { answer = q.0; output = q.1 }
