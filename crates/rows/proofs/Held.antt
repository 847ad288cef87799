-- The rows that are read from the words of tables are those of the records that the tables hold.
use Rattle.std.specs.Prelude.{if◌then◌else◌}
use Prim.Native.Nat.{ℕ, zero, suc, ◌+◌, ◌*◌, ◌≤◌}
use mathlib.Core.Bool.{Bool, true, false, ◌&&◌}
use mathlib.Core.Path.{◌≡◌, refl, sym, ap, ap₂, subst, ◌∙◌}
use mathlib.Core.List.{List, [], ◌∷◌, ◌++◌, map, append_assoc}
use mathlib.Core.Option.{Option, none, some}
use native.Mathlib.Omega.{arith}
use lib.Dec.{eqb}
use lib.ListN.{length, get_or, length-append, length-replicate, length-map}
use borrow.Author.Tests.{le-leb}
use Rattle.records.specs.Base.{within}
use Rattle.records.specs.Limits.{record_limit, name_width, node_width, error_width}
use Rattle.records.specs.Records.{no_span, name_words, node_words, error_words}
use Rattle.records.specs.declared.NameRecord.{NameRecord}
use Rattle.records.specs.declared.NodeRecord.{NodeRecord}
use Rattle.records.specs.declared.ErrorRecord.{ErrorRecord}
use Rattle.records.proofs.Choices.{within_low, within_high}
use Rattle.records.proofs.Widths.{name_width_law, node_width_law, error_width_law}
use Rattle.tables.specs.Tables.{table_of, word_at, span_at}
use Rattle.tables.proofs.Laws.{Wide, wide_map, room}
use Rattle.tables.proofs.Reading.{table_reads}
use Rattle.literals.specs.Literals.{span_text}
use Rattle.walk.specs.Trees.{record_no}
use Rattle.walk.proofs.Numbered.{not_there, record_bounds, record_at_law}
use Rattle.resolve.specs.Words.{node_at}
use Rattle.access.specs.Access.{name_span, name_text_of, in_table, is_root_at}
use Rattle.access.specs.Roots.{no_parent, is_root, roots}
use Rattle.print.specs.Text.{printed_row}
use Rattle.rows.specs.Rows.{head_row, name_word, node_row, node_rows, root_row, root_rows, error_row, error_rows, span_text_if, name_in, listed}
use Rattle.rows.specs.Words.{◌then◌, rows_from, count_from, error_at, node_row_at, nodes_at, root_row_at, roots_at, error_row_at, errors_at, listed_at}

-- ---- numbers of records

module _ {A : Type 0} (xs : List A) (n : ℕ) where
  -- a number that has a record is one of 1 to the last
  within_some : (x : A) → record_no xs n ≡ some x → within 1 (length xs) n ≡ true
  within_some x e = let b = record_bounds xs n x e in rw (le-leb 1 n b.0, le-leb n (length xs) b.1)

  -- any other has none
  within_none : record_no xs n ≡ none → within 1 (length xs) n ≡ false
  within_none e = go (within 1 (length xs) n) refl
    where
      go : (b : Bool) → within 1 (length xs) n ≡ b → within 1 (length xs) n ≡ false
      go true q = let r = record_at_law xs n (within_low 1 (length xs) n q) (within_high 1 (length xs) n q) in absurd (not_there r.0 (sym e ∙ r.1))
      go false q = q

-- the record of a number, in a list of what the records are mapped to
mapped_at : {A : Type 0} (f : A → List ℕ) (xs : List A) (i : ℕ) (x : A) → record_no xs (suc i) ≡ some x → get_or (map f xs) i [] ≡ f x
unfolding record_no
mapped_at f [] i x e = absurd (not_there x e)
mapped_at f (y ∷ xs) zero x e = let q : y ≡ x = cc in ap f q
mapped_at f (y ∷ xs) (suc i) x e = mapped_at f xs i x e

-- ---- a table that holds records

-- a table has the words of 1,024 records at least
table_long : (w : ℕ) (old : List ℕ) {rs : List (List ℕ)} → Wide w rs → length rs ≤ record_limit → record_limit * w ≤ length (table_of w rs old)
unfolding table_of
table_long w old {rs} wide few = simp (length-append, length-replicate) (omega (arith, room w wide few))

module _ {A : Type 0} (w : ℕ) (words : A → List ℕ) (wide : (a : A) → length (words a) ≡ w)
    (xs : List A) (few : length xs ≤ record_limit) (table old : List ℕ) (holds : table ≡ table_of w (map words xs) old) where
  few_rows : length (map words xs) ≤ record_limit
  few_rows = omega (arith, few, length-map xs words)

  -- a word of the record of a number
  word_held : (n : ℕ) (x : A) → record_no xs n ≡ some x → (j : ℕ) → word_at w table n j ≡ get_or (words x) j 0
  word_held zero x e j = absurd (not_there x (unfold record_no in e))
  word_held (suc i) x e j =
      ap (λ (t : List ℕ). word_at w t (suc i) j) holds
      ∙ table_reads w old (wide_map w words wide xs) few_rows i j
      ∙ ap (λ (r : List ℕ). get_or r j 0) (mapped_at words xs i x e)

  -- how long it is
  long_held : record_limit * w ≤ length table
  long_held = subst (λ (t : List ℕ). record_limit * w ≤ length t) (sym holds) (table_long w old (wide_map w words wide xs) few_rows)

-- ---- number by number, and record by record

-- What is joined number by number is what is joined record by record, if each number gives what its record does.
module _ {A B : Type 0} (join : B → B → B) (by_number : ℕ → B) (by_record : ℕ → A → B) (from : (count i : ℕ) → B) (all : (i : ℕ) → List A → B)
    (nothing : (i : ℕ) → from 0 i ≡ all i [])
    (next : (c i : ℕ) → from (suc c) i ≡ join (by_number i) (from c (suc i)))
    (first : (i : ℕ) (x : A) (xs : List A) → all i (x ∷ xs) ≡ join (by_record i x) (all (suc i) xs)) where
  -- the records behind m others
  behind : (m : ℕ) (xs : List A) → ((n k : ℕ) (x : A) → k ≡ m + n → record_no xs n ≡ some x → by_number k ≡ by_record k x) → from (length xs) (suc m) ≡ all (suc m) xs
  unfolding record_no
  behind m [] h = nothing (suc m)
  behind m (x ∷ xs) h = next (length xs) (suc m) ∙ ap₂ join (h 1 (suc m) x (omega arith) refl) (behind (suc m) xs later) ∙ sym (first (suc m) x xs)
    where
      later : (n k : ℕ) (y : A) → k ≡ suc m + n → record_no xs n ≡ some y → by_number k ≡ by_record k y
      later zero k y q e = absurd (not_there y e)
      later (suc n) k y q e = h (suc (suc n)) k y (omega (arith, q)) e

  -- all of them
  record_by_record : (xs : List A) → ((n : ℕ) (x : A) → record_no xs n ≡ some x → by_number n ≡ by_record n x) → from (length xs) 1 ≡ all 1 xs
  record_by_record xs h = behind 0 xs (λ n k x q e. let z : n ≡ k = omega (arith, q) in subst (λ (i : ℕ). by_number i ≡ by_record i x) z (h n x e))

-- so with rows
rows_by_record : {A : Type 0} (row_at : ℕ → List ℕ) (row_of : ℕ → A → List ℕ) (all : (i : ℕ) → List A → List ℕ)
    → ((i : ℕ) → [] ≡ all i []) → ((i : ℕ) (x : A) (xs : List A) → all i (x ∷ xs) ≡ row_of i x ++ all (suc i) xs)
    → (xs : List A) → ((n : ℕ) (x : A) → record_no xs n ≡ some x → row_at n ≡ row_of n x) → rows_from row_at (length xs) 1 ≡ all 1 xs
unfolding rows_from ◌then◌
rows_by_record row_at row_of all nothing first xs h = record_by_record ◌++◌ row_at row_of (rows_from row_at) all nothing (λ c i. refl) first xs h

-- what is joined of the roots: a name that is none adds nothing
roots_join : {B : Type 0} (join : B → B → B) (nothing : B) (own : NameRecord → B) (all : List NameRecord → B)
    → ((n : NameRecord) (ns : List NameRecord) → all (n ∷ ns) ≡ join (own n) (all ns)) → ((ns : List NameRecord) → all ns ≡ join nothing (all ns))
    → (n : NameRecord) (ns : List NameRecord) (xs : List NodeRecord) → all (roots (n ∷ ns) xs) ≡ join (if is_root xs n then own n else nothing) (all (roots ns xs))
unfolding roots
roots_join join nothing own all first skip n ns xs = go (is_root xs n)
  where
    go : (b : Bool) → all (if b then n ∷ roots ns xs else roots ns xs) ≡ join (if b then own n else nothing) (all (roots ns xs))
    go true = first n (roots ns xs)
    go false = skip (roots ns xs)

-- ---- rows

-- the row of a node takes a name by its text
name_word_same : (f g : ℕ → List ℕ) → ((n : ℕ) → f n ≡ g n) → (n : ℕ) → name_word f n ≡ name_word g n
unfolding name_word
name_word_same f g h zero = refl
name_word_same f g h (suc n) = h (suc n)

node_row_same : (source : List ℕ) (f g : ℕ → List ℕ) → ((n : ℕ) → f n ≡ g n) → (i : ℕ) (x : NodeRecord) → node_row source f i x ≡ node_row source g i x
unfolding node_row
node_row_same source f g h i x = rw (name_word_same f g h x.name.0)

-- an empty part of the source
no_text : (source : List ℕ) → span_text source no_span ≡ []
no_text source = rw (le-leb 0 (length source) (omega arith))

-- six runs of rows, however they are joined
six_runs : (a b c d e f : List ℕ) → (a ++ b) ++ ((c ++ d) ++ (e ++ f)) ≡ a ++ b ++ c ++ d ++ e ++ f
six_runs a b c d e f = simp append_assoc

-- ---- tables that hold names, nodes and errors

-- the three tables are those of these records
pub record Held (names nodes errors : List ℕ) (ns : List NameRecord) (xs : List NodeRecord) (es : List ErrorRecord) : Type 0 where
  pub old_names : List ℕ
  pub old_nodes : List ℕ
  pub old_errors : List ℕ
  pub name_table : names ≡ table_of name_width (map name_words ns) old_names
  pub node_table : nodes ≡ table_of node_width (map node_words xs) old_nodes
  pub error_table : errors ≡ table_of error_width (map error_words es) old_errors
  pub few_names : length ns ≤ record_limit
  pub few_nodes : length xs ≤ record_limit
  pub few_errors : length es ≤ record_limit

module _ (source names nodes errors : List ℕ) (ns : List NameRecord) (xs : List NodeRecord) (es : List ErrorRecord) (h : Held names nodes errors ns xs es) where
  -- ---- records by their words

  -- each word of the record of a number
  name_word_law : (i : ℕ) (n : NameRecord) → record_no ns i ≡ some n → (j : ℕ) → word_at name_width names i j ≡ get_or (name_words n) j 0
  name_word_law = word_held name_width name_words name_width_law ns h.few_names names h.old_names h.name_table

  node_word_law : (i : ℕ) (x : NodeRecord) → record_no xs i ≡ some x → (j : ℕ) → word_at node_width nodes i j ≡ get_or (node_words x) j 0
  node_word_law = word_held node_width node_words node_width_law xs h.few_nodes nodes h.old_nodes h.node_table

  error_word_law : (i : ℕ) (e : ErrorRecord) → record_no es i ≡ some e → (j : ℕ) → word_at error_width errors i j ≡ get_or (error_words e) j 0
  error_word_law = word_held error_width error_words error_width_law es h.few_errors errors h.old_errors h.error_table

  -- a node by its number
  node_held : (i : ℕ) (x : NodeRecord) → record_no xs i ≡ some x → node_at nodes i ≡ x
  node_held i x e = rw (node_word_law i x e 0, node_word_law i x e 1, node_word_law i x e 2, node_word_law i x e 3, node_word_law i x e 4, node_word_law i x e 5, node_word_law i x e 6, node_word_law i x e 7)

  -- an error by its number
  error_held : (i : ℕ) (x : ErrorRecord) → record_no es i ≡ some x → error_at errors i ≡ x
  error_held i x e = rw (error_word_law i x e 0, error_word_law i x e 1, error_word_law i x e 2, error_word_law i x e 3)

  -- ---- names

  -- the text of a name, for any number
  pub name_text_held : (n : ℕ) → name_text_of source names (length ns) n ≡ name_in source ns n
  unfolding name_text_of name_span name_in
  name_text_held n = go (record_no ns n) refl
    where
      go : (o : Option NameRecord) → record_no ns n ≡ o → span_text source (if within 1 (length ns) n then span_at name_width names n 0 else no_span) ≡ span_text_if source o
      go none e = rw (within_none ns n e) (no_text source)
      go (some x) e = rw (within_some ns n x e, name_word_law n x e 0, name_word_law n x e 1)

  -- a node by its number has no parent; a number 0 or past the last has no node
  node_root : (k : ℕ) → in_table node_width (length nodes) (length xs) k && eqb (word_at node_width nodes k 7) 0 ≡ no_parent (record_no xs k)
  node_root k = go (record_no xs k) refl
    where
      long : record_limit * node_width ≤ length nodes
      long = long_held node_width node_words node_width_law xs h.few_nodes nodes h.old_nodes h.node_table

      go : (o : Option NodeRecord) → record_no xs k ≡ o → in_table node_width (length nodes) (length xs) k && eqb (word_at node_width nodes k 7) 0 ≡ no_parent o
      go none e = rw (within_none xs k e)
      go (some x) e =
          let b = record_bounds xs k x e in
          let few : length xs ≤ record_limit = h.few_nodes in
          rw (within_some xs k x e, le-leb k record_limit (omega (arith, b, few)), le-leb (k * node_width) (length nodes) (omega (arith, b, few, long)), node_word_law k x e 7)

  -- a name is a root, by the words or by the records
  pub root_held : (i : ℕ) (n : NameRecord) → record_no ns i ≡ some n → is_root_at names (length ns) nodes (length xs) i ≡ is_root xs n
  unfolding is_root_at is_root
  root_held i n e =
      ap₂ (λ (b : Bool) (k : ℕ). b && (in_table node_width (length nodes) (length xs) k && eqb (word_at node_width nodes k 7) 0)) (within_some ns i n e) (name_word_law i n e 3)
      ∙ node_root n.node.0

  -- ---- rows

  -- the table's rows are those of the records
  node_rows_law : rows_from (node_row_at source names (length ns) nodes) (length xs) 1 ≡ node_rows source (name_in source ns) 1 xs
  unfolding node_rows node_row_at
  node_rows_law =
      rows_by_record (node_row_at source names (length ns) nodes) (node_row source (name_in source ns)) (node_rows source (name_in source ns)) (λ i. refl) (λ i x ys. refl) xs
      (λ i x e. ap (node_row source (name_text_of source names (length ns)) i) (node_held i x e) ∙ node_row_same source (name_text_of source names (length ns)) (name_in source ns) name_text_held i x)

  error_rows_law : rows_from (error_row_at source errors) (length es) 1 ≡ error_rows source es
  unfolding error_rows error_row_at
  error_rows_law =
      rows_by_record (error_row_at source errors) (λ i. error_row source) (λ i. error_rows source) (λ i. refl) (λ i x ys. refl) es
      (λ i x e. ap (error_row source) (error_held i x e))

  -- ---- roots

  abbrev is_root_no : ℕ → Bool
  is_root_no = is_root_at names (length ns) nodes (length xs)

  abbrev root_row_no : ℕ → List ℕ
  root_row_no = root_row_at source names (length ns) nodes (length xs)

  -- the row of a name: none if it is no root
  root_row_law : (i : ℕ) (n : NameRecord) → record_no ns i ≡ some n → root_row_no i ≡ (if is_root xs n then root_row source n else [])
  unfolding root_row_at root_row name_in
  root_row_law i n e =
      ap₂ (λ (b : Bool) (t : List ℕ). if b then printed_row (t ∷ []) else []) (root_held i n e) (name_text_held i ∙ ap (span_text_if source) e)

  root_rows_law : rows_from root_row_no (length ns) 1 ≡ root_rows source (roots ns xs)
  unfolding root_rows roots
  root_rows_law =
      rows_by_record root_row_no (λ i n. if is_root xs n then root_row source n else []) (λ i ms. root_rows source (roots ms xs)) (λ i. refl)
      (λ i n ms. roots_join ◌++◌ [] (root_row source) (root_rows source) (λ n ms. refl) (λ ms. refl) n ms xs)
      ns root_row_law

  -- how many roots
  root_count : count_from is_root_no (length ns) 1 ≡ length (roots ns xs)
  unfolding count_from roots
  root_count =
      record_by_record ◌+◌ (λ i. if is_root_no i then 1 else 0) (λ i n. if is_root xs n then 1 else 0) (count_from is_root_no) (λ i ms. length (roots ms xs)) (λ i. refl) (λ c i. refl)
      (λ i n ms. roots_join ◌+◌ 0 (λ n. 1) length (λ n ms. omega arith) (λ ms. omega arith) n ms xs)
      ns (λ i n e. ap (λ (b : Bool). if b then 1 else 0) (root_held i n e))

  -- THE ROWS READ FROM THE TABLES ARE THE LISTING OF THE RECORDS
  pub listed_held : listed_at source names (length ns) nodes (length xs) errors (length es) ≡ listed source ns xs es
  unfolding listed_at listed nodes_at roots_at errors_at ◌then◌
  listed_held =
      rw (node_rows_law, root_count, root_rows_law, error_rows_law)
      (six_runs (head_row "nodes" (length xs)) (node_rows source (name_in source ns) 1 xs) (head_row "roots" (length (roots ns xs))) (root_rows source (roots ns xs)) (head_row "errors" (length es)) (error_rows source es))
