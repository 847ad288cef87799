-- Laws of tests and of choices by a test. Assumes nothing.
use Rattle.std.specs.Prelude.{if◌then◌else◌}
use Prim.Native.Nat.{ℕ, ◌≤◌}
use mathlib.Core.Bool.{Bool, true, false, ◌&&◌, ◌||◌}
use mathlib.Core.Path.{◌≡◌, refl, sym}
use mathlib.Core.Logic.{◌⊎◌, inl, inr}
use lib.Dec.{leb}
use borrow.Author.Tests.{leb-true}
use Rattle.records.specs.Base.{within}

pub and_left : (p q : Bool) → p && q ≡ true → p ≡ true
and_left true q e = refl
and_left false q e = e

pub and_right : (p q : Bool) → p && q ≡ true → q ≡ true
and_right true q e = e
and_right false q e = let z : true ≡ false = sym e in cc

pub or_cases : (p q : Bool) → p || q ≡ true → (p ≡ true) ⊎ (q ≡ true)
or_cases true q e = inl refl
or_cases false q e = inr e

pub within_low : (lo hi n : ℕ) → within lo hi n ≡ true → lo ≤ n
within_low lo hi n e = leb-true lo n (and_left (leb lo n) (leb n hi) e)

pub within_high : (lo hi n : ℕ) → within lo hi n ≡ true → n ≤ hi
within_high lo hi n e = leb-true n hi (and_right (leb lo n) (leb n hi) e)

pub if_or : {A : Type 0} (p q : Bool) (x y : A) → (if p || q then x else y) ≡ (if p then x else if q then x else y)
if_or true q x y = refl
if_or false q x y = refl
