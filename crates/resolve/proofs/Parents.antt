-- The in-degrees, counted in a pass of their own. Assumes nothing.
use Prim.Native.Nat.{ℕ, zero, suc, min, ◌+◌, ◌-◌, ◌*◌, ◌^◌, ◌≤◌, ◌<◌}
use mathlib.Core.Bool.{Bool, true, false}
use mathlib.Core.Path.{◌≡◌, refl, sym, ap, ap₂, ◌∙◌}
use mathlib.Core.Logic.{◌⊎◌, inl, inr, ◌≢◌}
use mathlib.Core.List.{List, [], ◌∷◌, ◌++◌, map}
use native.Mathlib.Numerals.{add-one}
use native.Mathlib.Omega.{arith}
use lib.ListN.{length, get_or, set, take}
use lib.Dec.{eqb, leb}
use borrow.Author.Tests.{eqb-true, eqb-false, eq-eqb, ne_eqb, le-leb, leb-false}
use Rattle.std.specs.Prelude.{if◌then◌else◌}
use Rattle.records.specs.Base.{within}
use Rattle.records.specs.Limits.{record_limit, node_width}
use Rattle.records.specs.Records.{no_span, node_words}
use Rattle.records.specs.NodeKind as node
use Rattle.records.specs.declared.NodeRecord.{NodeRecord}
use Rattle.records.proofs.Choices.{within_low, within_high}
use Rattle.tables.specs.Tables.{table_of, word_at, written}
use Rattle.tables.proofs.Laws.{Wide, none, more, table_word, table_replace}
use Rattle.walk.specs.Walk.{Node}
use Rattle.walk.specs.Nodes.{in_degree, one_if, node_record, node_records_from, node_records}
use Rattle.walk.proofs.Basics.{same?}
use Rattle.resolve.specs.Words.{node_at, with_parent, bumped, one_more, begun_word, Counts}

-- one more, as the library's addition of words does it
pub more_word : (d : ℕ) → d < 2 ^ 32 → min (d + 1) (2 ^ 32 - 1) ≡ one_more d
more_word d h = go (eqb d begun_word) refl
  where
    go : (b : Bool) → eqb d begun_word ≡ b → min (d + 1) (2 ^ 32 - 1) ≡ (if b then d else suc d)
    go true e = let z : d ≡ begun_word = eqb-true d begun_word e in omega arith
    go false e = let z : d ≢ begun_word = eqb-false d begun_word e in omega arith

-- what stands for a node past the last
abbrev pub no_node : Node
no_node = record { kind = node.missing; head = record { start = 0; name = 0; span = no_span }; left = 0; right = 0 }

-- ---- rows of nodes, each with a degree

unfoldable pub rows_with : (degree : ℕ → ℕ) → (i : ℕ) → List Node → List (List ℕ)
rows_with d i [] = []
rows_with d i (x ∷ xs) = node_words (node_record x (d i)) ∷ rows_with d (suc i) xs

rows_are : (all : List Node) (i : ℕ) (xs : List Node) → map node_words (node_records_from all i xs) ≡ rows_with (in_degree all) i xs
unfolding node_records_from rows_with
rows_are all i [] = refl
rows_are all i (x ∷ xs) = ap {B = List (List ℕ)} (λ rs. node_words (node_record x (in_degree all i)) ∷ rs) (rows_are all (suc i) xs)

with_length : (d : ℕ → ℕ) (i : ℕ) (xs : List Node) → length (rows_with d i xs) ≡ length xs
unfolding rows_with
with_length d i [] = refl
with_length d i (x ∷ xs) = ap suc (with_length d (suc i) xs)

with_wide : (d : ℕ → ℕ) (i : ℕ) (xs : List Node) → Wide node_width (rows_with d i xs)
unfolding rows_with
with_wide d i [] = none
with_wide d i (x ∷ xs) = more refl (with_wide d (suc i) xs)

with_at : (d : ℕ → ℕ) (i : ℕ) (xs : List Node) (j m : ℕ) → j < length xs → m ≡ i + j → get_or (rows_with d i xs) j [] ≡ node_words (node_record (get_or xs j no_node) (d m))
unfolding rows_with
with_at d i [] j m h e = absurd (omega arith)
with_at d i (x ∷ xs) zero m h e = let z : m ≡ i = omega arith in rw z
with_at d i (x ∷ xs) (suc j) m h e = with_at d (suc i) xs j m (omega arith) (omega arith)

with_same : (d f : ℕ → ℕ) (i : ℕ) (xs : List Node) → ((m : ℕ) → i ≤ m → m < i + length xs → d m ≡ f m) → rows_with d i xs ≡ rows_with f i xs
unfolding rows_with
with_same d f i [] h = refl
with_same d f i (x ∷ xs) h = ap₂ {C = List (List ℕ)} (λ k rs. node_words (node_record x k) ∷ rs) (h i (omega arith) (omega arith)) (with_same d f (suc i) xs (λ m a b. h m (omega arith) (omega arith)))

with_set : (d f : ℕ → ℕ) (i : ℕ) (xs : List Node) (j m : ℕ) → j < length xs → m ≡ i + j → ((n : ℕ) → n ≢ m → d n ≡ f n) → set (rows_with d i xs) j (node_words (node_record (get_or xs j no_node) (f m))) ≡ rows_with f i xs
unfolding rows_with
with_set d f i [] j m h e g = absurd (omega arith)
with_set d f i (x ∷ xs) zero m h e g =
    let z : m ≡ i = omega arith in
    ap₂ {C = List (List ℕ)} (λ k rs. node_words (node_record x k) ∷ rs) (ap f z) (with_same d f (suc i) xs (λ n a b. let q : n ≢ m = omega arith in g n q))
with_set d f i (x ∷ xs) (suc j) m h e g =
    let q : i ≢ m = omega arith in
    ap₂ {C = List (List ℕ)} (λ k rs. node_words (node_record x k) ∷ rs) (g i q) (with_set d f (suc i) xs j m (omega arith) (omega arith) g)

-- ---- one parent more

-- the degrees with one more for i
pub more_for : (ℕ → ℕ) → (i m : ℕ) → ℕ
more_for d i m = d m + one_if (eqb i m)

module _ (xs : List Node) (few : length xs ≤ record_limit) (d : ℕ → ℕ) (old : List ℕ) where
  word_is : (m j : ℕ) → 1 ≤ m → m ≤ length xs → word_at node_width (table_of node_width (rows_with d 1 xs) old) m j ≡ get_or (node_words (node_record (get_or xs (m - 1) no_node) (d m))) j 0
  word_is m j a b =
      let e : m - 1 + 1 ≡ m = omega arith in
      ap (λ (x : ℕ). word_at node_width (table_of node_width (rows_with d 1 xs) old) x j) (sym e)
      ∙ table_word node_width old (with_wide d 1 xs) (omega (arith, with_length d 1 xs)) (m - 1) j (omega (arith, with_length d 1 xs))
      ∙ ap (λ (r : List ℕ). get_or r j 0) (with_at d 1 xs (m - 1) m (omega arith) (omega arith))

  pub left_is : (m : ℕ) → 1 ≤ m → m ≤ length xs → word_at node_width (table_of node_width (rows_with d 1 xs) old) m 3 ≡ (get_or xs (m - 1) no_node).left
  left_is m a b = word_is m 3 a b

  pub right_is : (m : ℕ) → 1 ≤ m → m ≤ length xs → word_at node_width (table_of node_width (rows_with d 1 xs) old) m 4 ≡ (get_or xs (m - 1) no_node).right
  right_is m a b = word_is m 4 a b

  node_is : (m : ℕ) → 1 ≤ m → m ≤ length xs → node_at (table_of node_width (rows_with d 1 xs) old) m ≡ node_record (get_or xs (m - 1) no_node) (d m)
  node_is m a b = rw (word_is m 0 a b, word_is m 1 a b, word_is m 2 a b, word_is m 3 a b, word_is m 4 a b, word_is m 5 a b, word_is m 6 a b, word_is m 7 a b)

  bumped_in : (i : ℕ) → 1 ≤ i → i ≤ length xs → d i < begun_word → bumped (table_of node_width (rows_with d 1 xs) old) (length xs) i ≡ table_of node_width (rows_with (more_for d i) 1 xs) old
  unfolding bumped more_for
  bumped_in i a b small =
      let e : i ≡ i - 1 + 1 = omega arith in
      let f : one_more (d i) ≡ d i + one_if (eqb i i) = rw (ne_eqb (d i) begun_word (λ q. omega arith), eq-eqb i i refl) (sym (add-one (d i))) in
      rw (le-leb 1 i a, le-leb i (length xs) b)
      (ap (λ (x : NodeRecord). written node_width (table_of node_width (rows_with d 1 xs) old) i (node_words (with_parent x))) (node_is i a b)
      ∙ ap₂ (λ (n k : ℕ). written node_width (table_of node_width (rows_with d 1 xs) old) n (node_words (node_record (get_or xs (i - 1) no_node) k))) e f
      ∙ table_replace node_width old (with_wide d 1 xs) (omega (arith, with_length d 1 xs)) (i - 1) (node_words (node_record (get_or xs (i - 1) no_node) (d i + one_if (eqb i i)))) (omega (arith, with_length d 1 xs)) refl
      ∙ ap (λ (rs : List (List ℕ)). table_of node_width rs old) (with_set d (λ m. d m + one_if (eqb i m)) 1 xs (i - 1) i (omega arith) (omega arith) (λ n q. let y : i ≢ n = λ z. q (sym z) in rw (ne_eqb i n y) (omega arith))))

  bumped_out : (i : ℕ) → (i ≡ 0) ⊎ (length xs < i) → within 1 (length xs) i ≡ false → bumped (table_of node_width (rows_with d 1 xs) old) (length xs) i ≡ table_of node_width (rows_with (more_for d i) 1 xs) old
  unfolding bumped more_for
  bumped_out i o t = rw t (ap (λ (rs : List (List ℕ)). table_of node_width rs old) (with_same d (λ m. d m + one_if (eqb i m)) 1 xs (λ m a b. apart m a b o)))
    where
      apart : (m : ℕ) → 1 ≤ m → m < 1 + length xs → (i ≡ 0) ⊎ (length xs < i) → d m ≡ d m + one_if (eqb i m)
      apart m a b (inl z) = let y : i ≢ m = omega arith in rw (ne_eqb i m y) (omega arith)
      apart m a b (inr z) = let y : i ≢ m = omega arith in rw (ne_eqb i m y) (omega arith)

  -- ONE PARENT MORE for the node i, whatever i is
  pub bumped_is : (i : ℕ) → ((m : ℕ) → d m < begun_word) → bumped (table_of node_width (rows_with d 1 xs) old) (length xs) i ≡ table_of node_width (rows_with (more_for d i) 1 xs) old
  bumped_is i small = go (within 1 (length xs) i) refl
    where
      go : (b : Bool) → within 1 (length xs) i ≡ b → bumped (table_of node_width (rows_with d 1 xs) old) (length xs) i ≡ table_of node_width (rows_with (more_for d i) 1 xs) old
      go true e = bumped_in i (within_low 1 (length xs) i e) (within_high 1 (length xs) i e) (small i)
      go false e = bumped_out i (sub (same? i 0)) e
        where
          sub : (i ≡ 0) ⊎ (i ≢ 0) → (i ≡ 0) ⊎ (length xs < i)
          sub (inl z) = inl z
          sub (inr z) = inr (past (leb i (length xs)) refl)
            where
              past : (b : Bool) → leb i (length xs) ≡ b → length xs < i
              past true q = let y : ◌≡◌ {A = ℕ} 0 1 = (let v : within 1 (length xs) i ≡ true = rw (le-leb 1 i (omega arith), q) in cc) in absurd (omega arith)
              past false q = leb-false i (length xs) q

-- ---- the degrees of a list and one node more

degree_snoc : (xs : List Node) (x : Node) (i : ℕ) → in_degree (xs ++ (x ∷ [])) i ≡ in_degree xs i + one_if (eqb x.left i) + one_if (eqb x.right i)
unfolding in_degree
degree_snoc [] x i = omega arith
degree_snoc (y ∷ xs) x i = omega (arith, degree_snoc xs x i)

one_le : (b : Bool) → one_if b ≤ 1
one_le true = omega arith
one_le false = omega arith

degree_le : (xs : List Node) (i : ℕ) → in_degree xs i ≤ 2 * length xs
unfolding in_degree
degree_le [] i = omega arith
degree_le (x ∷ xs) i = omega (arith, degree_le xs i, one_le (eqb x.left i), one_le (eqb x.right i))

take_snoc : (xs : List Node) (n : ℕ) → n < length xs → take (suc n) xs ≡ take n xs ++ (get_or xs n no_node ∷ [])
take_snoc [] n h = absurd (omega arith)
take_snoc (x ∷ xs) zero h = refl
take_snoc (x ∷ xs) (suc n) h = ap {B = List Node} (λ ys. x ∷ ys) (take_snoc xs n (omega arith))

take_few : (xs : List Node) (n : ℕ) → length (take n xs) ≤ length xs
take_few [] zero = omega arith
take_few [] (suc n) = omega arith
take_few (x ∷ xs) zero = omega arith
take_few (x ∷ xs) (suc n) = omega (arith, take_few xs n)

take_all : (xs : List Node) → take (length xs) xs ≡ xs
take_all [] = refl
take_all (x ∷ xs) = ap {B = List Node} (λ ys. x ∷ ys) (take_all xs)

-- ---- the pass

-- after the nodes before number n
unfoldable pub Counting : (nd : List ℕ) (count : ℕ) (nd' : List ℕ) (n : ℕ) → Type 0
Counting nd c nd' n =
    (xs : List Node) (old : List ℕ) → c ≡ length xs → c ≤ record_limit → nd ≡ table_of node_width (map node_words (node_records_from [] 1 xs)) old
    → nd' ≡ table_of node_width (rows_with (in_degree (take (n - 1) xs)) 1 xs) old

pub counting_none : (nd : List ℕ) (c : ℕ) → Counting nd c nd 1
unfolding Counting
counting_none nd c xs old e f h = h ∙ ap (λ (rs : List (List ℕ)). table_of node_width rs old) (rows_are [] 1 xs)

pub counting_more : (nd : List ℕ) (c : ℕ) (nd' : List ℕ) (n : ℕ) (nd₁ nd₂ : List ℕ) (l r : ℕ) → 1 ≤ n → n ≤ c → l ≡ word_at node_width nd' n 3 → nd₁ ≡ bumped nd' c l → r ≡ word_at node_width nd₁ n 4 → nd₂ ≡ bumped nd₁ c r
    → Counting nd c nd' n → Counting nd c nd₂ (n + 1)
unfolding Counting
counting_more nd c nd' n nd₁ nd₂ l r p k hl h1 hr h2 v xs old e f h = two
  where
    d : ℕ → ℕ
    d = in_degree (take (n - 1) xs)

    x : Node
    x = get_or xs (n - 1) no_node

    few : length xs ≤ record_limit
    few = omega arith

    before : nd' ≡ table_of node_width (rows_with d 1 xs) old
    before = v xs old e f h

    small : (m : ℕ) → d m < begun_word
    small m = omega (arith, degree_le (take (n - 1) xs) m, take_few xs (n - 1), few)

    left : l ≡ x.left
    left = hl ∙ ap (λ (t : List ℕ). word_at node_width t n 3) before ∙ left_is xs few d old n p (omega arith)

    one : nd₁ ≡ table_of node_width (rows_with (more_for d x.left) 1 xs) old
    one = h1 ∙ ap₂ (λ (t : List ℕ) (i : ℕ). bumped t i l) before e ∙ ap (bumped (table_of node_width (rows_with d 1 xs) old) (length xs)) left ∙ bumped_is xs few d old x.left small

    right : r ≡ x.right
    right = hr ∙ ap (λ (t : List ℕ). word_at node_width t n 4) one ∙ right_is xs few (more_for d x.left) old n p (omega arith)

    small₁ : (m : ℕ) → more_for d x.left m < begun_word
    small₁ m = unfold more_for in omega (arith, degree_le (take (n - 1) xs) m, take_few xs (n - 1), few, one_le (eqb x.left m))

    behind : n + 1 - 1 ≡ suc (n - 1)
    behind = omega arith

    degrees : (m : ℕ) → 1 ≤ m → m < 1 + length xs → more_for (more_for d x.left) x.right m ≡ in_degree (take (n + 1 - 1) xs) m
    degrees m a b =
        unfold more_for in (sym (degree_snoc (take (n - 1) xs) x m) ∙ ap (λ (ys : List Node). in_degree ys m) (sym (take_snoc xs (n - 1) (omega arith)) ∙ ap (λ (i : ℕ). take i xs) (sym behind)))

    two : nd₂ ≡ table_of node_width (rows_with (in_degree (take (n + 1 - 1) xs)) 1 xs) old
    two = h2 ∙ ap₂ (λ (t : List ℕ) (i : ℕ). bumped t i r) one e ∙ ap (bumped (table_of node_width (rows_with (more_for d x.left) 1 xs) old) (length xs)) right
        ∙ bumped_is xs few (more_for d x.left) old x.right small₁
        ∙ ap (λ (rs : List (List ℕ)). table_of node_width rs old) (with_same (more_for (more_for d x.left) x.right) (in_degree (take (n + 1 - 1) xs)) 1 xs degrees)

pub counting_all : (nd : List ℕ) (c : ℕ) (nd' : List ℕ) (n : ℕ) → n - 1 ≡ c → Counting nd c nd' n → Counts nd c nd'
unfolding Counting Counts node_records
counting_all nd c nd' n k v xs old e f h =
    v xs old e f h ∙ ap (λ (ys : List Node). table_of node_width (rows_with (in_degree ys) 1 xs) old) (ap (λ (i : ℕ). take i xs) (k ∙ e) ∙ take_all xs)
    ∙ ap (λ (rs : List (List ℕ)). table_of node_width rs old) (sym (rows_are xs 1 xs))
