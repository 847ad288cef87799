-- The tables before the walk and after it. Assumes nothing.
use Prim.Native.Nat.{ℕ, zero, suc, ◌+◌, ◌*◌, ◌≤◌, ◌<◌}
use mathlib.Core.Path.{◌≡◌, refl, sym, ap, ap₂, subst, ◌∙◌}
use mathlib.Core.List.{List, [], ◌∷◌, map}
use native.Mathlib.Omega.{arith}
use lib.ListN.{length, take}
use Rattle.records.specs.Limits.{record_limit, name_width, node_width, work_width}
use Rattle.records.specs.Records.{name_words, node_words}
use Rattle.tables.specs.Tables.{table_of}
use Rattle.tables.proofs.Laws.{table_again, table_cleared}
use Rattle.tables.proofs.Filled.{table_beyond}
use Rattle.lex.specs.Tokens.{Token}
use Rattle.grammar.specs.Tree.{Line}
use Rattle.names.specs.Names.{names_of, name_record, name_rows}
use Rattle.names.specs.Held.{Held}
use Rattle.walk.specs.Walk.{Node, Status, fresh, finished, State, names_to, unwalked, final, Tree}
use Rattle.walk.specs.Trees.{tree_of}
use Rattle.walk.specs.Nodes.{in_degree, node_records_from, node_rows, node_no, name_records_from, name_records, named_rows, walked, nodes_of}
use Rattle.walk.proofs.Basics.{not_fresh_done}
use Rattle.walk.proofs.Fuel.{all_done}
use Rattle.walk.proofs.Count.{nodes_parts, total as total_of, total_none, total_more, parts_total}
use Rattle.walk.proofs.Sizes.{nodes_are_parts, parts_few}
use Rattle.resolve.specs.Resolved.{HeldNames, Resolved}
use Rattle.resolve.specs.Words.{status_word, Counts}
use Rattle.resolve.specs.Turns.{Given, status_rows, fresh_row, Stack, Holds, VisitsTo}
use Rattle.resolve.proofs.Names.{rows_length, rows_wide}
use Rattle.resolve.proofs.Holds.{few}
use Rattle.walk.specs.Machine.{fresh_sum, size, fresh_size}

-- ---- rows

rows_fresh : (ls : List Line) (k : ℕ) (xs : List Token) → status_rows ls (λ n. fresh) k xs ≡ map (λ (x : Token). name_words (name_record ls 0 x)) xs
unfolding status_rows
rows_fresh ls k [] = refl
rows_fresh ls k (x ∷ xs) = ap {B = List (List ℕ)} (λ rs. name_words (name_record ls 0 x) ∷ rs) (rows_fresh ls (suc k) xs)

rows_finished : (ls : List Line) (st : ℕ → Status) (k : ℕ) (xs : List Token) → ((m : ℕ) → k ≤ m → m < k + length xs → (i : ℕ) × (st m ≡ finished i)) → status_rows ls st k xs ≡ map name_words (name_records_from ls st k xs)
unfolding status_rows name_records_from
rows_finished ls st k [] h = refl
rows_finished ls st k (x ∷ xs) h =
    let d = h k (omega arith) (omega arith) in
    ap₂ {C = List (List ℕ)} (λ i rs. name_words (name_record ls i x) ∷ rs) (ap status_word d.1 ∙ sym (ap node_no d.1))
    (rows_finished ls st (suc k) xs (λ m a b. h m (omega arith) (omega arith)))

rows_none : (k : ℕ) (xs : List Node) → map node_words (node_records_from [] k xs) ≡ map fresh_row xs
unfolding node_records_from in_degree
rows_none k [] = refl
rows_none k (x ∷ xs) = ap {B = List (List ℕ)} (λ rs. fresh_row x ∷ rs) (rows_none (suc k) xs)

-- ---- room

sum_total : (f : ℕ → ℕ) (n : ℕ) → fresh_sum f n (λ m. fresh) ≡ total_of f n
unfolding fresh_sum
sum_total f zero = sym (total_none f)
sum_total f (suc n) = omega (arith, sum_total f n, total_more f n)

parts_fit : (source es : List ℕ) (ls : List Line) → Held source es ls → fresh_size (tree_of ls (names_of ls)) (length (names_of ls)) (unwalked (tree_of ls (names_of ls)) (length (names_of ls))) ≤ record_limit
parts_fit source es ls h =
    let F : ℕ → Tree = tree_of ls (names_of ls) in
    let N : ℕ = length (names_of ls) in
    let e : length (final F N).nodes ≡ length (nodes_of ls) = unfold walked in refl in
    omega (arith, sum_total (λ n. size (F n)) N, parts_total F N, nodes_parts F N, e, nodes_are_parts ls, parts_few ls, h.room)

-- ---- before and after

pub resolve_all : (source es nm nd wk : List ℕ) (count : ℕ) (nd₁ nm' nd₂ wk' nd' wk₂ : List ℕ) (r : ℕ) → record_limit * node_width ≤ length nd → record_limit * work_width ≤ length wk
    → nd₁ ≡ take (length nd) (table_of node_width [] nd) → VisitsTo source es count count nm nd₁ wk r nm' nd₂ wk' → Counts nd₂ r nd' → wk₂ ≡ take (length wk') (table_of work_width [] wk')
    → (ls : List Line) → HeldNames source es nm count ls → Resolved ls r nm nm' nd nd' wk wk₂
unfolding VisitsTo Counts
resolve_all source es nm nd wk count nd₁ nm' nd₂ wk' nd' wk₂ r ln lw h1 hv hc h2 ls h = (made_is, names_are, nodes_are, work_is)
  where
    w : Given source es count
    w = record { lines = ls; names = nm; nodes = nd; work = wk; held = h.held; counted = h.counted }

    ns : List Token
    ns = names_of ls

    F : ℕ → Tree
    F = tree_of ls ns

    N : ℕ
    N = length ns

    names₀ : nm ≡ table_of name_width (status_rows ls (λ n. fresh) 1 ns) nm
    names₀ =
        let e : name_rows ls ≡ status_rows ls (λ n. fresh) 1 ns = unfold name_rows in sym (rows_fresh ls 1 ns) in
        let t : nm ≡ table_of name_width (status_rows ls (λ n. fresh) 1 ns) h.old = h.table ∙ ap (λ (rs : List (List ℕ)). table_of name_width rs h.old) e in
        t ∙ sym (table_again name_width (status_rows ls (λ n. fresh) 1 ns) h.old (rows_wide ls (λ n. fresh) 1 ns) (omega (arith, rows_length ls (λ n. fresh) 1 ns, few w)))
        ∙ ap (λ (x : List ℕ). table_of name_width (status_rows ls (λ n. fresh) 1 ns) x) (sym t)

    start : Holds w 0 0 nm nd₁ wk (unwalked F N) []
    start =
        record {
          names = names₀;
          sane = (refl, λ m i e. absurd (not_fresh_done i refl e));
          nodes = h1 ∙ table_cleared node_width nd ln;
          made = refl;
          waiting = refl;
          stack = unfold Stack in tt;
          room = lw;
          beyond = refl;
        }

    s : State
    s = final F N

    end : Holds w r 0 nm' nd₂ wk' s [] × (length s.nodes ≤ record_limit)
    end =
        let z : names_to F N count (unwalked F N) ≡ final F N = ap (λ (i : ℕ). names_to F N i (unwalked F N)) h.counted ∙ unfold final in refl in
        subst (λ (t : State). Holds w r 0 nm' nd₂ wk' t [] × (length t.nodes ≤ record_limit)) z (hv w start (parts_fit source es ls h.held))

    made_is : r ≡ length (nodes_of ls)
    made_is = end.0.made ∙ unfold walked in refl

    names_are : nm' ≡ table_of name_width (named_rows ls) nm
    names_are =
        let e : status_rows ls s.status 1 ns ≡ map name_words (name_records_from ls s.status 1 ns) = rows_finished ls s.status 1 ns (λ m a b. all_done F N m (a, omega arith)) in
        end.0.names ∙ ap (λ (rs : List (List ℕ)). table_of name_width rs nm) e ∙ unfold name_records walked in refl

    nodes_are : nd' ≡ table_of node_width (node_rows (nodes_of ls)) nd
    nodes_are =
        hc s.nodes nd end.0.made (omega (arith, end.0.made, end.1)) (end.0.nodes ∙ ap (λ (rs : List (List ℕ)). table_of node_width rs nd) (sym (rows_none 1 s.nodes)))
        ∙ unfold walked in refl

    work_is : wk₂ ≡ table_of work_width [] wk
    work_is = h2 ∙ table_cleared work_width wk' end.0.room ∙ table_beyond work_width [] wk' wk end.0.beyond
