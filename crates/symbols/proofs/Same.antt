-- Texts that are compared block by block and byte by byte. Assumes nothing.
use Prim.Native.Nat.{ℕ, zero, suc, ◌+◌, ◌*◌, ◌≤◌, ◌<◌}
use mathlib.Core.Bool.{Bool, true, false, ◌&&◌}
use mathlib.Core.Path.{◌≡◌, refl, sym}
use mathlib.Core.List.{[], ◌∷◌}
use native.Mathlib.Omega.{arith}
use native.Mathlib.Numerals.{add-one}
use lib.Dec.{eqb}
use lib.ListN.{length, take, drop, get_or, length-drop}
use lib.Seq.{drop-cons}
use Rattle.std.proofs.Math.Bool.{and_assoc}
use Rattle.std.proofs.lemmas.List.{drop-drop, get_or-drop}
use Rattle.checks.specs.Jets.{same}
use Rattle.symbols.specs.Symbols.{Text}

-- one byte more at the back
same_grow : (x y : Text) (j : ℕ) → j < length x → j < length y → same (take (suc j) x) (take (suc j) y) ≡ same (take j x) (take j y) && eqb (get_or x j 0) (get_or y j 0)
unfolding same
same_grow (p ∷ x) (q ∷ y) zero h k = go (eqb p q)
  where
    go : (b : Bool) → b && true ≡ true && b
    go true = refl
    go false = refl
same_grow (p ∷ x) (q ∷ y) (suc j) h k = rw (same_grow x y j (omega arith) (omega arith)) (sym (and_assoc (eqb p q) (same (take j x) (take j y)) (eqb (get_or x j 0) (get_or y j 0))))
same_grow [] y j h k = absurd (omega arith)
same_grow (p ∷ x) [] j h k = absurd (omega arith)

-- a front, and what is behind it
same_split : (n : ℕ) (x y : Text) → n ≤ length x → n ≤ length y → same x y ≡ same (take n x) (take n y) && same (drop n x) (drop n y)
unfolding same
same_split zero x y h k = refl
same_split (suc n) (p ∷ x) (q ∷ y) h k = rw (same_split n x y (omega arith) (omega arith)) (sym (and_assoc (eqb p q) (same (take n x) (take n y)) (same (drop n x) (drop n y))))
same_split (suc n) [] y h k = absurd (omega arith)
same_split (suc n) (p ∷ x) [] h k = absurd (omega arith)

module _ (a b : Text) where
  -- a block grows by a byte
  pub block_more : (at k : ℕ) → at + k < length a → at + k < length b → same (take (k + 1) (drop at a)) (take (k + 1) (drop at b)) ≡ same (take k (drop at a)) (take k (drop at b)) && eqb (get_or a (at + k) 0) (get_or b (at + k) 0)
  block_more at k h i = rw (add-one k, ← get_or-drop at a k 0, ← get_or-drop at b k 0) (same_grow (drop at a) (drop at b) k (omega (arith, length-drop at a)) (omega (arith, length-drop at b)))

  -- what is behind a block
  pub block_next : (k : ℕ) → k * 8 + 8 ≤ length a → k * 8 + 8 ≤ length b → same (drop (k * 8) a) (drop (k * 8) b) ≡ same (take 8 (drop (k * 8) a)) (take 8 (drop (k * 8) b)) && same (drop ((k + 1) * 8) a) (drop ((k + 1) * 8) b)
  block_next k h i =
      let z : k * 8 + 8 ≡ (k + 1) * 8 = omega arith in
      rw (← z, ← drop-drop 8 (k * 8) a, ← drop-drop 8 (k * 8) b) (same_split 8 (drop (k * 8) a) (drop (k * 8) b) (omega (arith, length-drop (k * 8) a)) (omega (arith, length-drop (k * 8) b)))

  module _ (e : length a ≡ length b) where
    -- one byte less at the front
    pub rest_next : (i : ℕ) → i < length a → same (drop i a) (drop i b) ≡ eqb (get_or a i 0) (get_or b i 0) && same (drop (i + 1) a) (drop (i + 1) b)
    unfolding same
    rest_next i h = rw (add-one i, drop-cons a i 0 h, drop-cons b i 0 (omega arith))

    pub rest_none : (i : ℕ) → length a ≤ i → same (drop i a) (drop i b) ≡ true
    unfolding same
    rest_none i h = go (drop i a) (drop i b) (omega (arith, length-drop i a)) (omega (arith, length-drop i b))
      where
        go : (x y : Text) → length x ≡ 0 → length y ≡ 0 → same x y ≡ true
        go [] [] f g = refl
        go (p ∷ x) y f g = absurd (omega arith)
        go [] (q ∷ y) f g = absurd (omega arith)
