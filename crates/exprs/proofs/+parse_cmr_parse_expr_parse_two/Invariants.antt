-- `exprs::parse_expr`, `exprs::parse_cmr` and `exprs::parse_two` meet their contracts: each by its head. The measures are three times
-- the depth, and 1 more for a CMR, 2 more for two parts.
use Prim.Native.Nat.{◌+◌, ◌*◌}
use Rattle.exprs.proofs.+parse_cmr_parse_expr_parse_two.Given as goal

abbrev pub decreases-parse_cmr : goal.decreases-parse_cmr
decreases-parse_cmr l = 3 * l.depth + 1

abbrev pub decreases-parse_expr : goal.decreases-parse_expr
decreases-parse_expr l = 3 * l.depth

abbrev pub decreases-parse_two : goal.decreases-parse_two
decreases-parse_two l = 3 * l.depth + 2
