-- What `clear` and its parts need of words that are zero, and of words set to zero. Assumes nothing.
use Prim.Native.Nat.{ℕ, zero, suc, min, ◌+◌, ◌*◌, ◌-◌, ◌≤◌, ◌<◌}
use mathlib.Core.Bool.{Bool, true, false, ◌&&◌, and-true, and_assoc}
use mathlib.Core.Path.{◌≡◌, refl, sym, ap, ◌∙◌}
use mathlib.Core.List.{List, [], ◌∷◌, ◌++◌, append_assoc, append-nil}
use native.Mathlib.Omega.{arith}
use native.Mathlib.Numerals.{add-one}
use native.Mathlib.Nat.{le_refl}
use lib.Bits.{bit_or, or_zero_l, or_add_and, and_le_r}
use lib.Dec.{eqb, leb, eqb-suc-zero}
use borrow.Author.Tests.{leb-true, leb-false, eqb-true, ne_eqb}
use lib.ListN.{length, get_or, take, drop, set, replicate, length-drop, length-append, length-replicate, replicate-append-replicate, drop_of_length-le}
use lib.Seq.{sets-eq, drop-cons, set-get_or, take_all, take_at}
use Rattle.records.proofs.Choices.{and_left, and_right}
use Rattle.records.specs.Limits.{record_limit}
use Rattle.tables.specs.Tables.{joined, table_of}
use Rattle.tables.specs.Zeros.{all_zero, zeroed}

-- ---- looking

-- an or is zero exactly if both its sides are
or_zero : (a b : ℕ) → eqb (bit_or a b) 0 ≡ eqb a 0 && eqb b 0
or_zero zero b = ap (λ (x : ℕ). eqb x 0) (or_zero_l b)
or_zero (suc a) b = rw (eqb-suc-zero a) (ne_eqb (bit_or (suc a) b) 0 (λ e. omega (arith, or_add_and (suc a) b, and_le_r (suc a) b, e)))

-- looking at words one by one: `seen` is the or of those before i
module _ (ws : List ℕ) where
  pub Looked : (seen i : ℕ) → Type 0
  Looked seen i = all_zero ws ≡ eqb seen 0 && all_zero (drop i ws)

  pub looked_none : Looked 0 0
  unfolding Looked
  looked_none = refl

  pub looked_more : (seen i : ℕ) → i < length ws → Looked seen i → Looked (bit_or seen (get_or ws i 0)) (i + 1)
  unfolding Looked all_zero
  looked_more seen i h e =
      e ∙ rw (add-one i, drop-cons ws i 0 h, or_zero seen (get_or ws i 0)) (sym (and_assoc (eqb seen 0) (eqb (get_or ws i 0) 0) (all_zero (drop (suc i) ws))))

  pub looked_done : (seen i : ℕ) → length ws ≤ i → Looked seen i → eqb seen 0 ≡ all_zero ws
  unfolding Looked all_zero
  looked_done seen i h e = sym (e ∙ rw (drop_of_length-le ws h) (and-true (eqb seen 0)))

-- ---- setting to zero

module _ (t : List ℕ) where
  -- no word is left
  pub zeroed_none : (i to : ℕ) → to ≤ i → zeroed t i to ≡ t
  unfolding zeroed
  zeroed_none i to h =
      let z : to - i ≡ 0 = omega arith in
      rw z

  -- one word, then the others
  pub zeroed_more : (i to : ℕ) → i < to → zeroed t i to ≡ zeroed (set t i 0) (i + 1) to
  unfolding zeroed
  zeroed_more i to h =
      let z : to - i ≡ suc (to - suc i) = omega arith in
      rw (z, add-one i)

-- the words up to m, which gives the table `new`, then those behind them
pub zeroed_split : (t new : List ℕ) (i m to : ℕ) → i ≤ m → m ≤ to → new ≡ zeroed t i m → zeroed t i to ≡ zeroed new m to
zeroed_split t new i m to h k e = go (m - i) t i (omega arith) ∙ ap (λ (x : List ℕ). zeroed x m to) (sym e)
  where
    go : (n : ℕ) (t : List ℕ) (i : ℕ) → m ≡ i + n → zeroed t i to ≡ zeroed (zeroed t i m) m to
    go zero t i e =
        let z : m ≡ i = omega arith in
        rw (zeroed_none t i m (omega arith), z)
    go (suc n) t i e = zeroed_more t i to (omega arith) ∙ go n (set t i 0) (i + 1) (omega arith) ∙ ap (λ (x : List ℕ). zeroed x m to) (sym (zeroed_more t i m (omega arith)))

-- words that are zero already stay as they are
pub zeroed_same : (t : List ℕ) (i to : ℕ) → to ≤ length t → all_zero (take (to - i) (drop i t)) ≡ true → zeroed t i to ≡ t
unfolding all_zero
zeroed_same t i to k = go (to - i) i refl
  where
    go : (n i : ℕ) → to - i ≡ n → all_zero (take n (drop i t)) ≡ true → zeroed t i to ≡ t
    go zero i e a = zeroed_none t i to (omega arith)
    go (suc n) i e a =
        let rest : Bool = all_zero (take n (drop (i + 1) t)) in
        let d : drop i t ≡ get_or t i 0 ∷ drop (i + 1) t = rw (add-one i) (drop-cons t i 0 (omega arith)) in
        let b : eqb (get_or t i 0) 0 && rest ≡ true = ap (λ (ws : List ℕ). all_zero (take (suc n) ws)) (sym d) ∙ a in
        let w : get_or t i 0 ≡ 0 = eqb-true (get_or t i 0) 0 (and_left (eqb (get_or t i 0) 0) rest b) in
        let s : set t i 0 ≡ t = ap (set t i) (sym w) ∙ set-get_or t i 0 in
        zeroed_more t i to (omega arith) ∙ ap (λ (x : List ℕ). zeroed x (i + 1) to) s ∙ go n (i + 1) (omega arith) (and_right (eqb (get_or t i 0) 0) rest b)

-- from the front on
zeroed_front : (t : List ℕ) (to : ℕ) → to ≤ length t → zeroed t 0 to ≡ replicate to 0 ++ drop to t
unfolding zeroed
zeroed_front t to h =
    let z : to - 0 ≡ to = omega arith in
    let zs : List ℕ = replicate to 0 in
    let l : 0 + length zs ≡ to = simp length-replicate (omega arith) in
    rw z (sets-eq zs t 0 (omega arith) ∙ rw l)

-- ---- clearing

-- zeros to the end of the records, or of the table
pub cleared : (w i : ℕ) (t : List ℕ) → i ≡ min (record_limit * w) (length t) → zeroed t 0 i ≡ take (length t) (table_of w [] t)
unfolding table_of joined
cleared w i t e = zeroed_front t i (omega arith) ∙ go (leb (record_limit * w) (length t)) refl
  where
    go : (b : Bool) → leb (record_limit * w) (length t) ≡ b → replicate i 0 ++ drop i t ≡ take (length t) (replicate (record_limit * w - 0) 0 ++ drop (record_limit * w) t)
    go true k =
        let h : record_limit * w ≤ length t = leb-true _ _ k in
        let z : record_limit * w - 0 ≡ i = omega arith in
        let y : record_limit * w ≡ i = omega arith in
        rw (z, y) (sym (take_all (length t) _ (simp (length-append, length-replicate, length-drop) (omega arith))))
    go false k =
        let h : length t < record_limit * w = leb-false _ _ k in
        let y : i ≡ length t = omega arith in
        let n : record_limit * w - 0 ≡ length t + (record_limit * w - length t) = omega arith in
        rw (y, n, ← replicate-append-replicate {A = ℕ} (length t) (record_limit * w - length t) 0, append_assoc, drop_of_length-le t (le_refl (length t)), append-nil)
        (sym (take_at (replicate (length t) 0) _ (length t) (length-replicate (length t) 0)))
