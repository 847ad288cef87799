-- Laws of `table_of`, over a variable width: how long a table is, that it has room for a record more, what a record written
-- and a record read are. Later layers cite these and not the definition. Assumes nothing.
use Prim.Native.Nat.{ℕ, zero, suc, ◌+◌, ◌*◌, ◌-◌, ◌≤◌, ◌<◌}
use mathlib.Core.Bool.{true}
use mathlib.Core.Path.{◌≡◌, refl, sym, ap, ◌∙◌}
use mathlib.Core.List.{List, [], ◌∷◌, ◌++◌, map, append_assoc, append-nil}
use native.Mathlib.Omega.{arith}
use native.Mathlib.Nat.{mul-le-mul_right, suc-mul, zero-mul}
use lib.ListN.{length, get_or, take, drop, set, replicate, length-append, length-drop, length-replicate, replicate-append-replicate, length-set}
use lib.Seq.{sets-eq, take_all, take_at, drop_at, split_at, length-take-le, set_split}
use borrow.Author.Tests.{le-leb}
use Rattle.records.specs.Base.{within}
use Rattle.records.specs.Limits.{record_limit}
use Rattle.tables.specs.Tables.{joined, table_of, record_at, word_at, written}

-- ---- records of one width

-- every record has w words
pub data Wide (w : ℕ) : List (List ℕ) → Type 0 where
  none : Wide w []
  more : {r : List ℕ} {rs : List (List ℕ)} → length r ≡ w → Wide w rs → Wide w (r ∷ rs)

pub wide_map {ℓ} : {A : Type ℓ} (w : ℕ) (f : A → List ℕ) → ((a : A) → length (f a) ≡ w) → (xs : List A) → Wide w (map f xs)
wide_map w f h [] = none
wide_map w f h (x ∷ xs) = more (h x) (wide_map w f h xs)

pub wide_append : {w : ℕ} {rs qs : List (List ℕ)} → Wide w rs → Wide w qs → Wide w (rs ++ qs)
wide_append none k = k
wide_append (more e h) k = more e (wide_append h k)

pub wide_take : {w : ℕ} {rs : List (List ℕ)} (i : ℕ) → Wide w rs → Wide w (take i rs)
wide_take zero h = none
wide_take (suc i) none = none
wide_take (suc i) (more e h) = more e (wide_take i h)

pub wide_get : {w : ℕ} {rs : List (List ℕ)} (i : ℕ) → Wide w rs → i < length rs → length (get_or rs i []) ≡ w
wide_get i none k = absurd (omega arith)
wide_get zero (more e h) k = e
wide_get (suc i) (more e h) k = wide_get i h (omega arith)

pub wide_set : {w : ℕ} {rs : List (List ℕ)} (i : ℕ) (r : List ℕ) → length r ≡ w → Wide w rs → Wide w (set rs i r)
wide_set i r e none = none
wide_set zero r e (more f h) = more e h
wide_set (suc i) r e (more f h) = more f (wide_set i r e h)

pub joined_append : (rs qs : List (List ℕ)) → joined (rs ++ qs) ≡ joined rs ++ joined qs
unfolding joined
joined_append [] qs = refl
joined_append (r ∷ rs) qs = rw (joined_append rs qs) (sym (append_assoc r (joined rs) (joined qs)))

pub joined_length : {w : ℕ} {rs : List (List ℕ)} → Wide w rs → length (joined rs) ≡ length rs * w
unfolding joined
joined_length {w} none = sym (zero-mul w)
joined_length {w} (more {r} {rs} e h) = length-append r (joined rs) ∙ rw (e, joined_length h) (omega (arith, suc-mul (length rs) w))

-- ---- the table's length, and its room

module _ (w : ℕ) where
  -- records up to the limit have room
  pub room : {rs : List (List ℕ)} → Wide w rs → length rs ≤ record_limit → length (joined rs) ≤ record_limit * w
  room h k = rw (joined_length h) (mul-le-mul_right w k)

  pub table_length : {rs : List (List ℕ)} (old : List ℕ) → Wide w rs → length rs ≤ record_limit → record_limit * w ≤ length old → length (table_of w rs old) ≡ length old
  unfolding table_of
  table_length old h k o = simp (length-append, length-replicate, length-drop) (omega (arith, room h k))

  -- what `clear` leaves of a table that has room
  pub table_cleared : (old : List ℕ) → record_limit * w ≤ length old → take (length old) (table_of w [] old) ≡ table_of w [] old
  table_cleared old o = take_all (length old) (table_of w [] old) (omega (arith, table_length old none (omega arith) o))

  -- a table that was filled before is filled anew; the words past the records stay
  pub table_again : (rs : List (List ℕ)) {vs : List (List ℕ)} (old : List ℕ) → Wide w vs → length vs ≤ record_limit → table_of w rs (table_of w vs old) ≡ table_of w rs old
  unfolding table_of
  table_again rs {vs} old h k =
      let zeros : List ℕ = replicate (record_limit * w - length (joined vs)) 0 in
      let e : length (joined vs ++ zeros) ≡ record_limit * w = simp (length-append, length-replicate) (omega (arith, room h k)) in
      ap (λ (x : List ℕ). joined rs ++ (replicate (record_limit * w - length (joined rs)) 0 ++ x))
      (ap (drop (record_limit * w)) (sym (append_assoc (joined vs) zeros (drop (record_limit * w) old)))
      ∙ drop_at (joined vs ++ zeros) (drop (record_limit * w) old) (record_limit * w) e)

-- ---- zeros

abbrev zeros : ℕ → List ℕ
zeros n = replicate n 0

zeros_split : (n a b : ℕ) → n ≡ a + b → zeros n ≡ zeros a ++ zeros b
zeros_split n a b e = rw e (sym (replicate-append-replicate a b 0))

zeros_word : (n j : ℕ) → get_or (zeros n) j 0 ≡ 0
zeros_word zero j = refl
zeros_word (suc n) zero = refl
zeros_word (suc n) (suc j) = zeros_word n j

-- ---- one record of a list of words: p before it, s behind it

module _ (p q s : List ℕ) (i w : ℕ) (ep : length p ≡ i * w) (eq : length q ≡ w) (h : i < record_limit) where
  within_limit : within 1 record_limit (i + 1) ≡ true
  within_limit = rw (le-leb 1 (i + 1) (omega arith), le-leb (i + 1) record_limit (omega arith))

  from_zero : (i + 1 - 1) * w ≡ length p
  from_zero = let z : i + 1 - 1 ≡ i = omega arith in rw z (sym ep)

  read_one : record_at w (p ++ (q ++ s)) (i + 1) ≡ q
  unfolding record_at
  read_one = rw (within_limit, from_zero, drop_at p (q ++ s) (length p) refl) (take_at q s w eq)

  write_one : (r : List ℕ) → length r ≡ w → written w (p ++ (q ++ s)) (i + 1) r ≡ p ++ (r ++ s)
  unfolding written
  write_one r er =
      let l : length p + length r ≤ length (p ++ (q ++ s)) = simp length-append (omega arith) in
      let d : drop (length p + length r) (p ++ (q ++ s)) ≡ s = ap (drop (length p + length r)) (sym (append_assoc p q s)) ∙ drop_at (p ++ q) s (length p + length r) (length-append p q ∙ omega arith) in
      rw (within_limit, from_zero, take_all w r (omega arith), sets-eq r (p ++ (q ++ s)) (length p) l, take_at p (q ++ s) (length p) refl, d) (append_assoc p r s)

-- ---- a record of a table

module _ (w : ℕ) (old : List ℕ) where
  -- the words behind the records of a table
  behind : List (List ℕ) → List ℕ
  behind rs = replicate (record_limit * w - length (joined rs)) 0 ++ drop (record_limit * w) old

  -- the table, taken apart at a record
  apart : (fs bs : List (List ℕ)) (x : List ℕ) → table_of w (fs ++ (x ∷ bs)) old ≡ joined fs ++ (x ++ (joined bs ++ behind (fs ++ (x ∷ bs))))
  unfolding table_of behind joined
  apart fs bs x = simp (joined_append, append_assoc)

  -- the same at the record i
  apart_at : (rs : List (List ℕ)) (i : ℕ) → i < length rs → table_of w rs old ≡ joined (take i rs) ++ (get_or rs i [] ++ (joined (drop (suc i) rs) ++ behind rs))
  apart_at rs i h =
      let e : rs ≡ take i rs ++ (get_or rs i [] ∷ drop (suc i) rs) = split_at rs i [] h in
      ap (λ (x : List (List ℕ)). table_of w x old) e ∙ apart (take i rs) (drop (suc i) rs) (get_or rs i [])
      ∙ ap (λ (x : List (List ℕ)). joined (take i rs) ++ (get_or rs i [] ++ (joined (drop (suc i) rs) ++ behind x))) (sym e)

  module _ {rs : List (List ℕ)} (wide : Wide w rs) (few : length rs ≤ record_limit) where
    length_before : (i : ℕ) → i ≤ length rs → length (joined (take i rs)) ≡ i * w
    length_before i h = joined_length (wide_take i wide) ∙ ap (λ (n : ℕ). n * w) (length-take-le i rs h)

    -- record i of the table, counted from 0, is the i-th of the records
    pub table_record : (i : ℕ) → i < length rs → record_at w (table_of w rs old) (i + 1) ≡ get_or rs i []
    table_record i h =
        rw (apart_at rs i h)
        (read_one (joined (take i rs)) (get_or rs i []) _ i w (length_before i (omega arith)) (wide_get i wide h) (omega arith))

    -- word j of record i
    pub table_word : (i j : ℕ) → i < length rs → word_at w (table_of w rs old) (i + 1) j ≡ get_or (get_or rs i []) j 0
    table_word i j h = ap (λ (r : List ℕ). get_or r j 0) (table_record i h)

    -- a record in place of record i
    pub table_replace : (i : ℕ) (r : List ℕ) → i < length rs → length r ≡ w → written w (table_of w rs old) (i + 1) r ≡ table_of w (set rs i r) old
    unfolding behind
    table_replace i r h er =
        let e : set rs i r ≡ take i rs ++ (r ∷ drop (suc i) rs) = set_split rs i r h in
        let n : length (joined rs) ≡ length (joined (set rs i r)) = joined_length wide ∙ ap (λ (k : ℕ). k * w) (sym (length-set rs i r)) ∙ sym (joined_length (wide_set i r er wide)) in
        let one : written w (table_of w rs old) (i + 1) r ≡ joined (take i rs) ++ (r ++ (joined (drop (suc i) rs) ++ behind rs)) =
        rw (apart_at rs i h) (write_one (joined (take i rs)) (get_or rs i []) _ i w (length_before i (omega arith)) (wide_get i wide h) (omega arith) r er) in
        one ∙ rw n
        (ap (λ (x : List (List ℕ)). joined (take i rs) ++ (r ++ (joined (drop (suc i) rs) ++ behind x))) e
        ∙ sym (apart (take i rs) (drop (suc i) rs) r)
        ∙ ap (λ (x : List (List ℕ)). table_of w x old) (sym e))

    -- a record more, where there is room for one
    pub table_append : (r : List ℕ) → length rs < record_limit → length r ≡ w → written w (table_of w rs old) (length rs + 1) r ≡ table_of w (rs ++ (r ∷ [])) old
    unfolding table_of joined
    table_append r h er =
        let m : length (joined rs) + w ≤ record_limit * w = rw (joined_length wide) (omega (arith, suc-mul (length rs) w, mul-le-mul_right w h)) in
        let k : ℕ = record_limit * w - length (joined rs) - w in
        let s : List ℕ = zeros k ++ drop (record_limit * w) old in
        let one : written w (joined rs ++ (zeros w ++ s)) (length rs + 1) r ≡ joined rs ++ (r ++ s) =
        write_one (joined rs) (zeros w) s (length rs) w (joined_length wide) (length-replicate w 0) h r er in
        let l : record_limit * w - length (joined rs ++ r) ≡ k = simp length-append (omega arith) in
        rw (zeros_split (record_limit * w - length (joined rs)) w k (omega arith), append_assoc (zeros w), one, joined_append, append-nil, l)
        (sym (append_assoc (joined rs) r s))

    -- a record that is not used is zero
    pub table_unused : (i j : ℕ) → length rs ≤ i → i < record_limit → word_at w (table_of w rs old) (i + 1) j ≡ 0
    unfolding table_of
    table_unused i j h k =
        let m : i * w + w ≤ record_limit * w = omega (arith, suc-mul i w, mul-le-mul_right w k) in
        let n : length (joined rs) ≤ i * w = rw (joined_length wide) (mul-le-mul_right w h) in
        let a : ℕ = i * w - length (joined rs) in
        let b : ℕ = record_limit * w - i * w - w in
        let s : List ℕ = zeros b ++ drop (record_limit * w) old in
        let z : zeros (record_limit * w - length (joined rs)) ≡ zeros a ++ (zeros w ++ zeros b) =
        zeros_split (record_limit * w - length (joined rs)) a (w + b) (omega arith) ∙ ap (λ (x : List ℕ). zeros a ++ x) (zeros_split (w + b) w b refl) in
        let one : record_at w ((joined rs ++ zeros a) ++ (zeros w ++ s)) (i + 1) ≡ zeros w =
        read_one (joined rs ++ zeros a) (zeros w) s i w (length-append (joined rs) (zeros a) ∙ simp length-replicate (omega arith)) (length-replicate w 0) k in
        let t : joined rs ++ (zeros (record_limit * w - length (joined rs)) ++ drop (record_limit * w) old) ≡ (joined rs ++ zeros a) ++ (zeros w ++ s) =
        rw z (simp append_assoc) in
        rw (t, one) (zeros_word w j)
