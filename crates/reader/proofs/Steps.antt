-- Steps 1 and 2 and the errors of nodes, one behind the other.
use Prim.Native.Nat.{ℕ, ◌+◌, ◌≤◌}
use mathlib.Core.Path.{◌≡◌, refl, ap, ◌∙◌}
use mathlib.Core.List.{List, [], ◌∷◌}
use native.Mathlib.Omega.{arith}
use lib.ListN.{length, length-map, length-append}
use Rattle.records.specs.Limits.{record_limit, name_width}
use Rattle.records.specs.NodeKind as node
use Rattle.records.specs.Records.{name_words}
use Rattle.tables.specs.Tables.{table_of}
use Rattle.tables.proofs.Laws.{Wide, wide_map, table_again}
use Rattle.lex.specs.Tokens.{Token}
use Rattle.grammar.specs.Tree.{Line}
use Rattle.ends.specs.declared.Counts.{Counts}
use Rattle.names.specs.Names.{names_of, name_record, name_rows, errors_of}
use Rattle.names.specs.Held.{HeldLines, Entered}
use Rattle.names.specs.declared.NameCounts.{NameCounts}
use Rattle.names.proofs.Laws.{names_few}
use Rattle.walk.specs.Walk.{NodeHead, Node}
use Rattle.walk.specs.Nodes.{nodes_of, named_rows}
use Rattle.resolve.specs.Resolved.{HeldNames, Resolved}
use Rattle.errors.specs.Errors.{errors_by, node_errors, all_errors, Appends}
use Rattle.errors.proofs.Fits.{errors_fit}
use Rattle.reader.specs.Steps.{Resolves}

rows_wide : (ls : List Line) → Wide name_width (name_rows ls)
unfolding name_rows
rows_wide ls = wide_map name_width (λ (x : Token). name_words (name_record ls 0 x)) (λ x. refl) (names_of ls)

rows_few : (ls : List Line) → length (name_rows ls) ≡ length (names_of ls)
unfolding name_rows
rows_few ls = length-map (names_of ls) (λ (x : Token). name_words (name_record ls 0 x))

-- a node gives one error at most
one_error : (k : node.Kind) (h : NodeHead) → length (errors_by k h) ≤ 1
one_error node.missing h = omega arith
one_error node.noexpr h = omega arith
one_error node.ref h = omega arith
one_error (node.part k) h = omega arith

node_errors_few : (xs : List Node) → length (node_errors xs) ≤ length xs
unfolding node_errors
node_errors_few [] = omega arith
node_errors_few (x ∷ xs) = omega (arith, length-append (errors_by x.kind x.head) (node_errors xs), one_error x.kind x.head, node_errors_few xs)

-- what step 1 leaves, and then step 2, and then the errors of nodes
pub all_three : (source lines exprs ns n1 n2 xs xs' rs r1 r2 ws ws' : List ℕ) (ls : List Line) (p : Counts) (e : NameCounts) (m k : ℕ) → HeldLines source lines exprs p.lines ls
    → Entered ls e ns n1 rs r1 → (HeldNames source exprs n1 e.names ls → Resolved ls m n1 n2 xs xs' ws ws') → Appends xs' m e.errors k r1 r2
    → Resolves ls p (record { parsed = p; names = e.names; nodes = m; errors = k }) ns n2 xs xs' rs r2 ws ws'
unfolding Appends all_errors
all_three source lines exprs ns n1 n2 xs xs' rs r1 r2 ws ws' ls p e m k h a f g =
    let b = f (record { held = h.held; old = ns; table = a.1; counted = ap (λ (c : NameCounts). c.names) a.0 }) in
    let few : length (name_rows ls) ≤ record_limit = omega (arith, rows_few ls, names_few ls, h.held.room) in
    let fit : length (errors_of ls) + length (nodes_of ls) ≤ record_limit = omega (arith, errors_fit ls, h.held.room) in
    let d =
    g (nodes_of ls) (errors_of ls) rs
    (record {
      old = xs;
      table = b.2;
      counted = b.0;
      few = omega (arith, fit);
      behind = ap (λ (c : NameCounts). c.errors) a.0;
      room = omega (arith, fit, node_errors_few (nodes_of ls));
    })
    a.2 in (
      rw (a.0, b.0, d.0),
      b.1 ∙ ap (table_of name_width (named_rows ls)) a.1 ∙ table_again name_width (named_rows ls) ns (rows_wide ls) few,
      b.2,
      d.1,
      b.3,
    )
