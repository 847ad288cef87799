use Rattle.rows.specs.Words.{error_row_at}
use Rattle.rows.proofs.put_errors.Given as goal

-- the rows that the closure writes: of the tables that it holds
abbrev pub ghost-put_rows : goal.ghost-put_rows
ghost-put_rows a = error_row_at a.put_row.0.now a.put_row.1.now
