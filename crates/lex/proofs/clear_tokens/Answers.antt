-- `lex::clear_tokens` meets its contract: the table has room.
use mathlib.Core.Path.{◌∙◌}
use Rattle.records.specs.Limits.{token_width}
use Rattle.tables.proofs.Laws.{table_cleared}
use Rattle.lex.proofs.clear_tokens.Goals as goal

pub returns : goal.returns
returns c = c.clear.ensures ∙ table_cleared token_width c.args.tokens.now c.requires
