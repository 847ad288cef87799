-- Powers of two, and the exponents that decimal digits say. Assumes nothing.
use Rattle.std.specs.Prelude.{if◌then◌else◌, Err, None, Option, Some}
use Prim.Native.Nat.{ℕ, zero, suc, ◌+◌, ◌-◌, ◌*◌, ◌^◌, ◌≤◌, ◌<◌}
use mathlib.Core.Bool.{Bool, true, false}
use mathlib.Core.Path.{◌≡◌, refl, ap, ◌∙◌}
use mathlib.Core.List.{List, [], ◌∷◌}
use mathlib.Core.Logic.{◌⊎◌, inl, inr, ⊎_elim}
use native.Mathlib.Omega.{arith}
use native.Mathlib.Numerals.{add-one}
use lib.Dec.{eqb, ltb}
use lib.ListN.{length, drop, get_or, drop_of_length-le}
use lib.Seq.{drop-cons}
use borrow.Author.Tests.{eqb-true, eqb-false, lt-ltb, le-ltb, ltb-true, ltb-false}
use Rattle.checks.specs.declared.Fault.TheVariants.{NumberOutOfRange}
use Rattle.std.specs.Option.{ok_or}
use Rattle.checks.specs.declared.Fault.TheVariants.{Bad2ExpNumber}
use Rattle.checks.specs.Powers.{log2, RightLog2, number_from, exponent_of}
use Rattle.checks.specs.Checks.{power_by, power_verdict}
use Rattle.checks.specs.Code.{exponent_cap, capped}

pub lt_or_le : (a b : ℕ) → (a < b) ⊎ (b ≤ a)
lt_or_le a b = go (ltb a b) refl
  where
    go : (t : Bool) → ltb a b ≡ t → (a < b) ⊎ (b ≤ a)
    go true e = inl (ltb-true a b e)
    go false e = inr (ltb-false a b e)

-- ---- powers of two

pub log2_right : (bound n : ℕ) → RightLog2 bound n (log2 bound n)
unfolding log2
log2_right zero n = λ k h e. absurd (omega arith)
log2_right (suc b) n = go (eqb n (2 ^ b)) refl (log2 b n) (log2_right b n)
  where
    go : (t : Bool) → eqb n (2 ^ b) ≡ t → (l : Option ℕ) → RightLog2 b n l → RightLog2 (suc b) n (if t then Some b else l)
    go true e l r = (eqb-true n (2 ^ b) e, omega arith)
    go false e (Some k) (p, h) = (p, omega arith)
    go false e None r =
        λ k h p.
        ⊎_elim
        (λ x. r k x p)
        (λ x.
        let z : k ≡ b = omega arith in
        eqb-false n (2 ^ b) e (p ∙ ap (λ (j : ℕ). 2 ^ j) z))
        (lt_or_le k b)

pub log2_none : (bound n : ℕ) → log2 bound n ≡ None → (k : ℕ) → k < bound → n ≡ 2 ^ k → ⊥
log2_none bound n e = rw e at (log2_right bound n)

-- ---- exponents

grows : (n : ℕ) (ds : List ℕ) → n ≤ number_from n ds
unfolding number_from
grows n [] = omega arith
grows n (d ∷ ds) = omega (arith, grows (10 * n + (d - 48)) ds)

-- once above the cap, a number stays above it
capped_first : (n : ℕ) (ds : List ℕ) → capped (number_from (capped n) ds) ≡ capped (number_from n ds)
unfolding capped
capped_first n ds =
    ⊎_elim
    (λ h.
    let e : capped n ≡ n = omega arith in
    ap (λ (m : ℕ). capped (number_from m ds)) e)
    (λ h. omega (arith, grows n ds, grows (capped n) ds))
    (lt_or_le n exponent_cap)

module _ (text : List ℕ) (i n : ℕ) where
  pub exponent_more : (m : ℕ) → i < length text → m ≡ capped (10 * n + (get_or text i 0 - 48)) → capped (number_from n (drop i text)) ≡ capped (number_from m (drop (i + 1) text))
  unfolding number_from
  exponent_more m h e = rw (e, add-one i, drop-cons text i 0, capped_first)

  pub exponent_end : length text ≤ i → n ≤ exponent_cap → capped (number_from n (drop i text)) ≡ n
  unfolding number_from capped
  exponent_end h k = rw (drop_of_length-le text h) (omega arith)

-- a logarithm that is missing is the number's fault
pub power_found : (e : ℕ) (l : Option ℕ) → ok_or l (Bad2ExpNumber e) ≡ power_by e l
power_found e None = refl
power_found e (Some n) = refl

-- e is the exponent up to the cap
module _ (text : List ℕ) (e : ℕ) (q : e ≡ capped (exponent_of text)) where
  pub power_big : 4294967295 < e → power_verdict text ≡ Err NumberOutOfRange
  unfolding power_verdict capped
  power_big h = rw (lt-ltb 4294967295 (exponent_of text) (omega arith))

  pub power_fits : e ≤ 4294967295 → power_verdict text ≡ power_by e (log2 10 e)
  unfolding power_verdict capped
  power_fits h =
      let z : exponent_of text ≡ e = omega arith in
      rw (z, le-ltb 4294967295 e h)
