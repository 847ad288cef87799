use Rattle.rows.specs.Words.{node_row_at}
use Rattle.rows.proofs.put_nodes.Given as goal

-- the rows that the closure writes: of the tables that it holds
abbrev pub ghost-put_rows : goal.ghost-put_rows
ghost-put_rows a = node_row_at a.put_row.0.now.source.now a.put_row.0.now.names.now a.put_row.0.now.named a.put_row.0.now.nodes.now
