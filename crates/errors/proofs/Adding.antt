-- The errors of nodes in the tables: what a node's words are, and what one node more does to the table of errors. Assumes nothing.
use Prim.Native.Nat.{ℕ, suc, ◌+◌, ◌≤◌, ◌<◌}
use mathlib.Core.Path.{◌≡◌, refl, sym, ap, ap₂, subst, ◌∙◌}
use mathlib.Core.List.{List, [], ◌∷◌, ◌++◌, map, append_assoc, append-nil, map-append}
use native.Mathlib.Omega.{arith}
use lib.ListN.{length, get_or, length-append, length-map}
use borrow.Author.Tests.{ne_eqb}
use Rattle.records.specs.Limits.{record_limit, node_width, error_width}
use Rattle.records.specs.Records.{node_words, error_words}
use Rattle.records.specs.NodeKind as node
use Rattle.records.specs.NodeKind.{PartKind}
use Rattle.records.specs.ErrorKind as error
use Rattle.std.specs.Prelude.{Option, Some, None}
use Rattle.records.specs.declared.kinds.ErrorKind.{ErrorKind}
use Rattle.records.specs.declared.ErrorRecord.{ErrorRecord}
use Rattle.tables.specs.Tables.{table_of, word_at, written}
use Rattle.tables.proofs.Laws.{Wide, wide_map, table_append}
use Rattle.tables.proofs.Reading.{table_reads}
use Rattle.cursor.specs.Cursor.{next_number}
use Rattle.cursor.proofs.Steps.{next_below}
use Rattle.names.specs.Names.{Error, error_record, error_rows}
use Rattle.walk.specs.Walk.{Node}
use Rattle.walk.proofs.Basics.{part_number_law}
use Rattle.walk.specs.Nodes.{in_degree, node_record, node_records_from, node_records}
use Rattle.errors.specs.Errors.{node_error, errors_by, node_errors, HeldNodes, Appends}
use Rattle.errors.specs.Code.{error_kind, error_of_node, count_after, table_after}

-- ---- kinds

-- a kind as the code has it
abbrev coded : error.Kind → ErrorKind
coded k = record { 0 = error.number k }

kind_none : {k : ℕ} → ¬ (k ≡ node.number node.missing) → ¬ (k ≡ node.number node.noexpr) → None ≡ error_kind k
unfolding error_kind
kind_none {k} a b = rw (ne_eqb k 1 a, ne_eqb k 2 b)

-- a part is no error
part_none : (k : PartKind) → None ≡ error_kind (node.part_number k)
part_none k = kind_none (λ e. omega (arith, e, part_number_law k)) (λ e. omega (arith, e, part_number_law k))

-- ---- one function's answer

-- what the kind that was read gives
pub kind_read : {r v : Option ErrorKind} {a b : ℕ} → r ≡ v → r ≡ error_kind a → a ≡ b → v ≡ error_kind b
kind_read f e w = sym f ∙ e ∙ ap error_kind w

module _ {o : Option ErrorKind} (b : ℕ) where
  -- no error
  module _ (none : None ≡ o) where
    pub count_same : b ≡ count_after o b
    unfolding count_after
    count_same = rw (← none)

    pub table_same : (nd : List ℕ) (n : ℕ) (rs : List ℕ) → rs ≡ table_after o nd n rs b
    unfolding table_after
    table_same nd n rs = rw (← none)

  -- or one
  module _ {k : ErrorKind} (some : Some k ≡ o) where
    pub count_more : {r : ℕ} → r ≡ next_number b → r ≡ count_after o b
    unfolding count_after
    count_more h = rw (← some) h

    pub table_more : (nd : List ℕ) (n : ℕ) (rs : List ℕ) {r : ℕ} {x : ErrorRecord} {rs' : List ℕ} → r ≡ next_number b → x ≡ error_of_node nd n k → rs' ≡ written error_width rs r (error_words x)
        → rs' ≡ table_after o nd n rs b
    unfolding table_after
    table_more nd n rs er ex h = rw (← some) (h ∙ rw (ex, er))

-- ---- the words of a node

rows_wide : (all : List Node) (i : ℕ) (xs : List Node) → Wide node_width (map node_words (node_records_from all i xs))
rows_wide all i xs = wide_map node_width node_words (λ x. refl) (node_records_from all i xs)

rows_length : (all : List Node) (i : ℕ) (xs : List Node) → length (map node_words (node_records_from all i xs)) ≡ length xs
unfolding node_records_from
rows_length all i [] = refl
rows_length all i (x ∷ xs) = ap suc (rows_length all (suc i) xs)

-- the row of the node behind `done`, with some in-degree
row_at : (all : List Node) (i : ℕ) (done rest : List Node) (x : Node)
    → (d : ℕ) × (get_or (map node_words (node_records_from all i (done ++ (x ∷ rest)))) (length done) [] ≡ node_words (node_record x d))
unfolding node_records_from
row_at all i [] rest x = (in_degree all i, refl)
row_at all i (y ∷ done) rest x = row_at all (suc i) done rest x

-- ---- one node more

errors_snoc : (xs : List Node) (x : Node) → node_errors (xs ++ (x ∷ [])) ≡ node_errors xs ++ errors_by x.kind x.head
unfolding node_errors
errors_snoc [] x = append-nil (errors_by x.kind x.head)
errors_snoc (y ∷ xs) x =
    ap (λ (es : List Error). errors_by y.kind y.head ++ es) (errors_snoc xs x)
    ∙ sym (append_assoc (errors_by y.kind y.head) (node_errors xs) (errors_by x.kind x.head))

-- the errors of a front are no more than those of all
errors_front : (xs ys : List Node) → length (node_errors xs) ≤ length (node_errors (xs ++ ys))
unfolding node_errors
errors_front [] ys = omega arith
errors_front (x ∷ xs) ys =
    omega (
      arith,
      errors_front xs ys,
      length-append (errors_by x.kind x.head) (node_errors xs),
      length-append (errors_by x.kind x.head) (node_errors (xs ++ ys)),
    )

-- an error more in the table of errors
append_one : (es : List Error) (e : Error) (old : List ℕ) → length es < record_limit
    → written error_width (table_of error_width (error_rows es) old) (next_number (length es)) (error_words (error_record e)) ≡ table_of error_width (error_rows (es ++ (e ∷ []))) old
unfolding error_rows
append_one es e old h =
    let row : Error → List ℕ = λ (f : Error). error_words (error_record f) in
    let n : next_number (length es) ≡ length (map row es) + 1 = sym (next_below h) ∙ ap (λ (i : ℕ). i + 1) (sym (length-map es row)) in
    ap (λ (i : ℕ). written error_width (table_of error_width (map row es) old) i (row e)) n
    ∙ table_append error_width old (wide_map error_width row (λ f. refl) es) (omega (arith, length-map es row)) (row e) (omega (arith, length-map es row)) refl
    ∙ ap (λ (rs : List (List ℕ)). table_of error_width rs old) (sym (map-append row es (e ∷ [])))

-- what the table of errors is behind these errors
abbrev pub Behind : (old : List ℕ) → List Error → (count : ℕ) → (errors : List ℕ) → Type 0
Behind old es b rs = (b ≡ length es) × (rs ≡ table_of error_width (error_rows es) old)

-- one node more, whose words stand in the table
add_one_node : (nd : List ℕ) (n : ℕ) (x : Node) (es : List Error) (old : List ℕ) → word_at node_width nd n 0 ≡ node.number x.kind → ((k : error.Kind) → error_of_node nd n (coded k) ≡ error_record (node_error k x.head))
    → length (es ++ errors_by x.kind x.head) ≤ record_limit → (b : ℕ) (rs : List ℕ) → Behind old es b rs
    → Behind old (es ++ errors_by x.kind x.head) (count_after (error_kind (word_at node_width nd n 0)) b) (table_after (error_kind (word_at node_width nd n 0)) nd n rs b)
add_one_node nd n x es old ek ee room b rs h = subst (λ (w : ℕ). Behind old (es ++ errors_by x.kind x.head) (count_after (error_kind w) b) (table_after (error_kind w) nd n rs b)) (sym ek) (go x.kind room)
  where
    -- an error
    wrong : (k : error.Kind) (w : ℕ) → Some (coded k) ≡ error_kind w → length (es ++ (node_error k x.head ∷ [])) ≤ record_limit
        → Behind old (es ++ (node_error k x.head ∷ [])) (count_after (error_kind w) b) (table_after (error_kind w) nd n rs b)
    wrong k w e r =
        let few : length es < record_limit = omega (arith, r, length-append es (node_error k x.head ∷ [])) in (
          sym (count_more b e refl) ∙ ap next_number h.0 ∙ sym (next_below few) ∙ sym (length-append es (node_error k x.head ∷ [])),
          sym (table_more b e nd n rs refl refl refl)
              ∙ ap₂ (λ (t : List ℕ) (i : ℕ). written error_width t (next_number i) (error_words (error_of_node nd n (coded k)))) h.1 h.0
              ∙ ap (λ (y : ErrorRecord). written error_width (table_of error_width (error_rows es) old) (next_number (length es)) (error_words y)) (ee k)
              ∙ append_one es (node_error k x.head) old few,
        )

    -- none
    right : (w : ℕ) → None ≡ error_kind w → Behind old (es ++ []) (count_after (error_kind w) b) (table_after (error_kind w) nd n rs b)
    right w e =
        subst (λ (fs : List Error). Behind old fs (count_after (error_kind w) b) (table_after (error_kind w) nd n rs b)) (sym (append-nil es))
        (sym (count_same b e) ∙ h.0, sym (table_same b e nd n rs) ∙ h.1)

    go : (k : node.Kind) → length (es ++ errors_by k x.head) ≤ record_limit
        → Behind old (es ++ errors_by k x.head) (count_after (error_kind (node.number k)) b) (table_after (error_kind (node.number k)) nd n rs b)
    go node.missing r = wrong error.missing 1 (unfold error_kind in refl) r
    go node.noexpr r = wrong error.incomplete 2 (unfold error_kind in refl) r
    go node.ref r = right 3 (kind_none (λ q. omega arith) (λ q. omega arith))
    go (node.part k) r = right (node.part_number k) (part_none k)

-- ---- the loop

-- the nodes of xs before number i are done: their errors stand behind those that there were
pub record SoFar (old : List ℕ) (xs : List Node) (es : List Error) (i b : ℕ) (rs : List ℕ) : Type 0 where
  pub done : List Node
  pub rest : List Node
  pub whole : xs ≡ done ++ rest
  pub size : suc (length done) ≡ i
  pub behind : Behind old (es ++ node_errors done) b rs

-- the loop's invariant, for all nodes that the table may hold
unfoldable pub Going : (nodes : List ℕ) → (count before : ℕ) → (errors : List ℕ) → (i b : ℕ) → (rs : List ℕ) → Type 0
Going nd c b₀ rs₀ i b rs =
    (xs : List Node) (es : List Error) (old : List ℕ) → HeldNodes nd c b₀ xs es → rs₀ ≡ table_of error_width (error_rows es) old → SoFar old xs es i b rs

module _ (nd : List ℕ) (c b₀ : ℕ) (rs₀ : List ℕ) where
  pub going_start : Going nd c b₀ rs₀ 1 b₀ rs₀
  unfolding Going node_errors
  going_start xs es old h e =
      record {
        done = [];
        rest = xs;
        whole = refl;
        size = refl;
        behind = subst (λ (fs : List Error). Behind old fs b₀ rs₀) (sym (append-nil es)) (h.behind, e);
      }

  -- the words of the node behind `done`
  node_word_law : (xs : List Node) (es : List Error) → HeldNodes nd c b₀ xs es → (done rest : List Node) (x : Node) → xs ≡ done ++ (x ∷ rest)
      → (d : ℕ) × ((j : ℕ) → word_at node_width nd (suc (length done)) j ≡ get_or (node_words (node_record x d)) j 0)
  unfolding node_records
  node_word_law xs es h done rest x e =
      let r = row_at xs 1 done rest x in (
        r.0,
        λ j. ap (λ (t : List ℕ). word_at node_width t (suc (length done)) j) h.table
            ∙ table_reads node_width h.old (rows_wide xs 1 xs) (omega (arith, rows_length xs 1 xs, h.few)) (length done) j
            ∙ ap (λ (ys : List Node). get_or (get_or (map node_words (node_records_from xs 1 ys)) (length done) []) j 0) e
            ∙ ap (λ (ws : List ℕ). get_or ws j 0) r.1,
      )

  pub going_more : (i b : ℕ) (rs : List ℕ) (r : ℕ) (rs' : List ℕ) → i ≤ c → Going nd c b₀ rs₀ i b rs → r ≡ count_after (error_kind (word_at node_width nd i 0)) b → rs' ≡ table_after (error_kind (word_at node_width nd i 0)) nd i rs b
      → Going nd c b₀ rs₀ (i + 1) r rs'
  unfolding Going
  going_more i b rs r rs' below g er et xs es old h e = go s.rest s.whole
    where
      s : SoFar old xs es i b rs
      s = g xs es old h e

      go : (rest : List Node) → xs ≡ s.done ++ rest → SoFar old xs es (i + 1) r rs'
      go [] w = absurd (omega (arith, below, h.counted, s.size, ap length (w ∙ append-nil s.done)))
      go (x ∷ rest) w =
          let done : List Node = s.done in
          let v = node_word_law xs es h done rest x w in
          let words : (j : ℕ) → word_at node_width nd i j ≡ get_or (node_words (node_record x v.0)) j 0 = λ j. ap (λ (m : ℕ). word_at node_width nd m j) (sym s.size) ∙ v.1 j in
          let snoc : es ++ node_errors (done ++ (x ∷ [])) ≡ (es ++ node_errors done) ++ errors_by x.kind x.head =
          ap (λ (fs : List Error). es ++ fs) (errors_snoc done x) ∙ sym (append_assoc es (node_errors done) (errors_by x.kind x.head)) in
          let all : xs ≡ (done ++ (x ∷ [])) ++ rest = w ∙ sym (append_assoc done (x ∷ []) rest) in
          let room : length ((es ++ node_errors done) ++ errors_by x.kind x.head) ≤ record_limit =
          omega (
            arith,
            h.room,
            ap length snoc,
            length-append es (node_errors (done ++ (x ∷ []))),
            errors_front (done ++ (x ∷ [])) rest,
            ap (λ (ys : List Node). length (node_errors ys)) all,
          ) in
          let one = add_one_node nd i x (es ++ node_errors done) old (words 0) (λ k. rw (words 1, words 5, words 6)) room b rs s.behind in
          record {
            done = done ++ (x ∷ []);
            rest = rest;
            whole = all;
            size = omega (arith, s.size, length-append done (x ∷ []));
            behind = (er ∙ one.0 ∙ ap length (sym snoc), et ∙ one.1 ∙ ap (λ (fs : List Error). table_of error_width (error_rows fs) old) (sym snoc));
          }

  pub going_all : (i b : ℕ) (rs : List ℕ) → c < i → Going nd c b₀ rs₀ i b rs → Appends nd c b₀ b rs₀ rs
  unfolding Going Appends
  going_all i b rs end g xs es old h e = go s.rest s.whole
    where
      s : SoFar old xs es i b rs
      s = g xs es old h e

      go : (rest : List Node) → xs ≡ s.done ++ rest → Behind old (es ++ node_errors xs) b rs
      go (x ∷ rest) w = absurd (omega (arith, end, h.counted, s.size, ap length w ∙ length-append s.done (x ∷ rest)))
      go [] w = subst (λ (ys : List Node). Behind old (es ++ node_errors ys) b rs) (sym (w ∙ append-nil s.done)) s.behind
