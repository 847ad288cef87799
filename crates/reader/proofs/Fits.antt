-- Names, nodes and errors of a file number at most its tokens.
use Prim.Native.Nat.{◌≤◌}
use mathlib.Core.Path.{◌≡◌}
use mathlib.Core.List.{List}
use native.Mathlib.Omega.{arith}
use lib.ListN.{length}
use Rattle.lex.specs.Tokens.{Token}
use Rattle.checks.specs.Checks.{Checks}
use Rattle.grammar.specs.Tree.{Line}
use Rattle.grammar.specs.Rule.{got}
use Rattle.grammar.specs.Grammar.{lines}
use Rattle.names.specs.Names.{names_of}
use Rattle.names.proofs.Laws.{names_few}
use Rattle.names.proofs.Parsed.{lines_room}
use Rattle.walk.specs.Nodes.{nodes_of}
use Rattle.walk.proofs.Sizes.{nodes_are_parts, parts_few}
use Rattle.errors.specs.Errors.{all_errors}
use Rattle.errors.proofs.Fits.{all_errors_fit}

pub resolved_fit : (checks : Checks) (ts : List Token) (ls : List Line) (rest : List Token) → lines checks ts ≡ got ls rest → (length (names_of ls) ≤ length ts) × (length (nodes_of ls) ≤ length ts) × (length (all_errors ls) ≤ length ts)
resolved_fit checks ts ls rest e =
    let room = lines_room checks ts ls rest e in
    (omega (arith, room, names_few ls), omega (arith, room, nodes_are_parts ls, parts_few ls), all_errors_fit checks ts ls rest e)
