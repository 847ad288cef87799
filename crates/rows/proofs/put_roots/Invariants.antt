use Rattle.rows.specs.Words.{root_row_at}
use Rattle.rows.proofs.put_roots.Given as goal

-- the rows that the closure writes: of the tables that it holds
abbrev pub ghost-put_rows : goal.ghost-put_rows
ghost-put_rows a = root_row_at a.put_row.0.now.source.now a.put_row.0.now.names.now a.put_row.0.now.named a.put_row.0.now.nodes.now a.put_row.0.now.made
