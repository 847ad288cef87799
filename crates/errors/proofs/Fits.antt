-- The errors of a file number at most its tokens: what its names weigh if each weighs 1. Assumes nothing.
use Prim.Native.Nat.{◌+◌, ◌≤◌}
use mathlib.Core.Path.{◌≡◌}
use mathlib.Core.List.{List}
use native.Mathlib.Omega.{arith}
use lib.ListN.{length}
use Rattle.lex.specs.Tokens.{Token}
use Rattle.checks.specs.Checks.{Checks}
use Rattle.grammar.specs.Tree.{Line}
use Rattle.grammar.specs.Rule.{got}
use Rattle.grammar.specs.Grammar.{lines}
use Rattle.grammar.specs.Recorded.{lines_exprs}
use Rattle.names.specs.Names.{errors_of}
use Rattle.walk.specs.Nodes.{nodes_of}
use Rattle.walk.proofs.Count.{sum_one}
use Rattle.walk.proofs.Sizes.{nodes_are_parts, errors_and_parts}
use Rattle.errors.specs.Errors.{all_errors}
use Rattle.errors.proofs.Weights.{errors_weigh_law}

-- no more errors of lines and nodes together than lines and records of expressions
pub errors_fit : (ls : List Line) → length (errors_of ls) + length (nodes_of ls) ≤ length ls + length (lines_exprs ls 0)
errors_fit ls = omega (arith, nodes_are_parts ls, errors_and_parts ls)

-- NO MORE ERRORS THAN TOKENS
pub all_errors_fit : (checks : Checks) (ts : List Token) (ls : List Line) (rest : List Token) → lines checks ts ≡ got ls rest → length (all_errors ls) ≤ length ts
all_errors_fit checks ts ls rest e = omega (arith, errors_weigh_law (λ _. 1) checks ts ls rest e, sum_one (all_errors ls), sum_one ts)
