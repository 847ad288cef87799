-- The work table and the table of nodes while the walk goes on. Assumes nothing.
use Prim.Native.Nat.{ℕ, zero, suc, ◌+◌, ◌-◌, ◌*◌, ◌≤◌, ◌<◌}
use mathlib.Core.Bool.{true}
use mathlib.Core.Path.{◌≡◌, refl, sym, ap, ◌∙◌}
use mathlib.Core.Logic.{◌≢◌}
use mathlib.Core.List.{List, [], ◌∷◌, ◌++◌, map}
use native.Mathlib.Omega.{arith}
use native.Mathlib.Numerals.{add-one}
use lib.ListN.{length, get_or, set, length-set}
use lib.Seq.{sets, get_or-set_same, get_or-set_other, length-sets}
use borrow.Author.Tests.{le-leb, lt-ltb}
use Rattle.records.specs.Base.{within}
use Rattle.records.specs.Limits.{record_limit, node_width, work_width}
use Rattle.tables.specs.Tables.{table_of, word_at, written, beyond}
use Rattle.tables.proofs.Words.{word_here}
use Rattle.tables.proofs.Laws.{Wide, none, more, table_append}
use Rattle.tables.proofs.Filled.{filled_one, filled_beyond}
use Rattle.cursor.specs.Cursor.{next_number}
use Rattle.walk.specs.Walk.{Node}
use Rattle.resolve.specs.Turns.{fresh_row}

-- ---- numbers

pub next_is : (n : ℕ) → n < record_limit → next_number n ≡ suc n
unfolding next_number
next_is n h = rw (lt-ltb n record_limit h) (add-one n)

is_number : (n : ℕ) → 1 ≤ n → n ≤ record_limit → within 1 record_limit n ≡ true
is_number n a b = rw (le-leb 1 n a, le-leb n record_limit b)

-- ---- a record of the work table, written and read

below : (l : List ℕ) (i : ℕ) (vs : List ℕ) (j : ℕ) → j < i → get_or (sets l i vs) j 0 ≡ get_or l j 0
below l i [] j h = refl
below l i (a ∷ vs) j h =
    let d : j ≢ i = omega arith in
    below (set l i a) (suc i) vs j (omega arith) ∙ get_or-set_other l i j a 0 d

here : (l : List ℕ) (i : ℕ) (vs : List ℕ) (k : ℕ) → i + length vs ≤ length l → k < length vs → get_or (sets l i vs) (i + k) 0 ≡ get_or vs k 0
here l i [] k h q = absurd (omega arith)
here l i (a ∷ vs) zero h q =
    let e : i + 0 ≡ i = omega arith in
    rw e (below (set l i a) (suc i) vs i (omega arith) ∙ get_or-set_same l i a 0 (omega arith))
here l i (a ∷ vs) (suc k) h q =
    let e : i + suc k ≡ suc i + k = omega arith in
    rw e (here (set l i a) (suc i) vs k (omega (arith, length-set l i a)) (omega arith))

word_at_law : (t : List ℕ) (n j : ℕ) → 1 ≤ n → n ≤ record_limit → j < 4 → word_at work_width t n j ≡ get_or t ((n - 1) * 4 + j) 0
word_at_law t n j a b h = sym (word_here work_width t n j ((n - 1) * 4) j (get_or t ((n - 1) * 4 + j) 0) (is_number n a b) h refl refl refl)

module _ (t : List ℕ) (n a b c d : ℕ) (lo : 1 ≤ n) (hi : n ≤ record_limit) where
  item_sets : written work_width t n (a ∷ b ∷ c ∷ d ∷ []) ≡ sets t ((n - 1) * 4) (a ∷ b ∷ c ∷ d ∷ [])
  unfolding written
  item_sets = rw (is_number n lo hi)

  -- the words that were written
  pub item_same : (j : ℕ) → record_limit * work_width ≤ length t → j < 4 → word_at work_width (written work_width t n (a ∷ b ∷ c ∷ d ∷ [])) n j ≡ get_or (a ∷ b ∷ c ∷ d ∷ []) j 0
  item_same j r h =
      word_at_law (written work_width t n (a ∷ b ∷ c ∷ d ∷ [])) n j lo hi h
      ∙ ap (λ (x : List ℕ). get_or x ((n - 1) * 4 + j) 0) item_sets
      ∙ here t ((n - 1) * 4) (a ∷ b ∷ c ∷ d ∷ []) j (omega arith) h

  -- the items below stay
  pub item_below : (m j : ℕ) → 1 ≤ m → m < n → j < 4 → word_at work_width (written work_width t n (a ∷ b ∷ c ∷ d ∷ [])) m j ≡ word_at work_width t m j
  item_below m j p q h =
      word_at_law (written work_width t n (a ∷ b ∷ c ∷ d ∷ [])) m j p (omega arith) h
      ∙ ap (λ (x : List ℕ). get_or x ((m - 1) * 4 + j) 0) item_sets
      ∙ below t ((n - 1) * 4) (a ∷ b ∷ c ∷ d ∷ []) ((m - 1) * 4 + j) (omega arith)
      ∙ sym (word_at_law t m j p (omega arith) h)

  pub item_length : length (written work_width t n (a ∷ b ∷ c ∷ d ∷ [])) ≡ length t
  item_length = ap length item_sets ∙ length-sets t ((n - 1) * 4) (a ∷ b ∷ c ∷ d ∷ [])

  pub item_beyond : beyond work_width (written work_width t n (a ∷ b ∷ c ∷ d ∷ [])) ≡ beyond work_width t
  item_beyond =
      let e : n ≡ n - 1 + 1 = omega arith in
      ap (λ (x : ℕ). beyond work_width (written work_width t x (a ∷ b ∷ c ∷ d ∷ []))) e
      ∙ ap (λ (x : List ℕ). beyond work_width x) (sym (filled_one work_width t (n - 1) (a ∷ b ∷ c ∷ d ∷ [])))
      ∙ filled_beyond work_width t (n - 1) ((a ∷ b ∷ c ∷ d ∷ []) ∷ [])

-- ---- a node more

pub fresh_wide : (xs : List Node) → Wide node_width (map fresh_row xs)
fresh_wide [] = none
fresh_wide (x ∷ xs) = more refl (fresh_wide xs)

pub fresh_length : (xs : List Node) → length (map fresh_row xs) ≡ length xs
fresh_length [] = refl
fresh_length (x ∷ xs) = ap suc (fresh_length xs)

fresh_snoc : (xs : List Node) (x : Node) → map fresh_row (xs ++ (x ∷ [])) ≡ map fresh_row xs ++ (fresh_row x ∷ [])
fresh_snoc [] x = refl
fresh_snoc (y ∷ xs) x = ap {B = List (List ℕ)} (λ rs. fresh_row y ∷ rs) (fresh_snoc xs x)

pub node_more : (old : List ℕ) (xs : List Node) (x : Node) → length xs < record_limit
    → written node_width (table_of node_width (map fresh_row xs) old) (next_number (length xs)) (fresh_row x) ≡ table_of node_width (map fresh_row (xs ++ (x ∷ []))) old
node_more old xs x h =
    let e : next_number (length xs) ≡ length (map fresh_row xs) + 1 = next_is (length xs) h ∙ omega (arith, fresh_length xs) in
    ap (λ (n : ℕ). written node_width (table_of node_width (map fresh_row xs) old) n (fresh_row x)) e
    ∙ table_append node_width old (fresh_wide xs) (omega (arith, fresh_length xs)) (fresh_row x) (omega (arith, fresh_length xs)) refl
    ∙ ap (λ (rs : List (List ℕ)). table_of node_width rs old) (sym (fresh_snoc xs x))
