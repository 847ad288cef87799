-- The digits of a number: none without room, one below ten, else those of the tenth part and one more. So they are put, and so they
-- have room. Assumes nothing.
use Prim.Native.Nat.{ℕ, zero, suc, ◌+◌, ◌-◌, ◌/◌, ◌%◌, ◌≤◌, ◌<◌}
use mathlib.Core.Path.{◌≡◌, refl}
use mathlib.Core.List.{[], ◌∷◌, ◌++◌}
use native.Mathlib.Omega.{arith}
use lib.ListN.{length, length-append}
use borrow.Author.Tests.{lt-ltb, le-ltb}
use Rattle.print.specs.declared.Output.{Output}
use Rattle.print.specs.Text.{digits, listing_limit, Adds}
use Rattle.print.proofs.Putting.{adds_then, adds_nothing}

module _ (room n : ℕ) where
  pub adds_none : (output : Output) → room ≡ 0 → Adds (digits room n) output output
  unfolding digits
  adds_none output e = rw e (adds_nothing output)

  module _ (some : room ≡ 0 → ⊥) where
    digits_one : n < 10 → digits room n ≡ (48 + n) ∷ []
    unfolding digits
    digits_one k = go room some
      where
        go : (f : ℕ) → (f ≡ 0 → ⊥) → digits f n ≡ (48 + n) ∷ []
        go zero h = absurd (h refl)
        go (suc f) h = rw (lt-ltb n 10 k)

    digits_more : 10 ≤ n → digits room n ≡ digits (room - 1) (n / 10) ++ ((48 + n % 10) ∷ [])
    unfolding digits
    digits_more k = go room some
      where
        go : (f : ℕ) → (f ≡ 0 → ⊥) → digits f n ≡ digits (f - 1) (n / 10) ++ ((48 + n % 10) ∷ [])
        go zero h = absurd (h refl)
        go (suc f) h = let e : suc f - 1 ≡ f = omega arith in rw (e, le-ltb n 10 k)

    pub fits_one : (at : ℕ) → n < 10 → at + length (digits room n) ≤ listing_limit → at < listing_limit
    fits_one at k h = omega (arith, rw (digits_one k) at h)

    pub adds_one : {d : ℕ} {old new : Output} → n < 10 → d ≡ 48 + n → Adds (d ∷ []) old new → Adds (digits room n) old new
    adds_one k e p = rw (digits_one k, ← e) p

    pub fits_more : (at : ℕ) → 10 ≤ n → at + length (digits room n) ≤ listing_limit → at + length (digits (room - 1) (n / 10)) ≤ listing_limit
    fits_more at k h = omega (arith, simp length-append at (rw (digits_more k) at h))

    module _ {old mid : Output} (k : 10 ≤ n) (p : Adds (digits (room - 1) (n / 10)) old mid) where
      pub fits_last : old.at + length (digits room n) ≤ listing_limit → mid.at < listing_limit
      fits_last h = omega (arith, p.puts.behind, simp length-append at (rw (digits_more k) at h))

      pub adds_more : {d : ℕ} {new : Output} → d ≡ 48 + n % 10 → Adds (d ∷ []) mid new → Adds (digits room n) old new
      adds_more e q = rw (digits_more k, ← e) (adds_then p q)
