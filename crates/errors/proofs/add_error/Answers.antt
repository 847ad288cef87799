-- `errors::add_error` meets its contract: by whether the node gives an error. Assumes nothing.
use Rattle.errors.proofs.Adding.{kind_read, count_same, table_same, count_more, table_more}
use Rattle.errors.proofs.add_error.Goals as goal

pub returns-in_default : goal.returns-in_default
returns-in_default c =
    let e = kind_read c.in_default.is c.error_kind.ensures c.word-node_kind.ensures in
    record { count = count_same _ e; table = table_same _ e _ _ _ }

pub returns : goal.returns
returns c =
    let e = kind_read c.in-Some.is c.error_kind.ensures c.word-node_kind.ensures in
    record { count = count_more _ e c.next_number-made.ensures; table = table_more _ e _ _ _ c.next_number-made.ensures c.error_at.ensures c.write_record.ensures }
