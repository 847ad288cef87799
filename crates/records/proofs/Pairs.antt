-- Equal answers have equal parts. Assumes nothing.
use mathlib.Core.Path.{◌≡◌, ap, ◌∙◌}
use Prim.Native.Nat.{ℕ}
use native.Mathlib.Omega.{arith}
use Rattle.std.specs.Prelude.{Option, Some, None, Result, Ok, Err}
use Rattle.std.specs.Result.{IsErrAnd}
use Rattle.std.proofs.lemmas.Result.{err_from_is_err_and}

module _ {A B : Type 0} {x u : A} {y v : B} where
  pub pair_parts : ◌≡◌ {A = A × B} (x, y) (u, v) → (x ≡ u) × (y ≡ v)
  pair_parts e = (ap (λ (p : A × B). p.0) e, ap (λ (p : A × B). p.1) e)

  pub some_parts : ◌≡◌ {A = Option (A × B)} (Some (x, y)) (Some (u, v)) → (x ≡ u) × (y ≡ v)
  some_parts e = pair_parts (cc)

  pub ok_parts : {E : Type 0} → ◌≡◌ {A = Result (A × B) E} (Ok (x, y)) (Ok (u, v)) → (x ≡ u) × (y ≡ v)
  ok_parts e = pair_parts (cc)

-- the first part by another name
pub ok_first : {A B E : Type 0} {x u : A} {y : B} {r : Result (A × B) E} → r ≡ Ok (x, y) → x ≡ u → r ≡ Ok (u, y)
ok_first {A} {y = y} e f = e ∙ ap (λ (a : A). Ok (a, y)) f

module _ {A B C : Type 0} {x u : A} {y v : B} {z w : C} where
  pub some_three : ◌≡◌ {A = Option (A × B × C)} (Some (x, y, z)) (Some (u, v, w)) → (x ≡ u) × (y ≡ v) × (z ≡ w)
  some_three e =
      let t : ◌≡◌ {A = A × B × C} (x, y, z) (u, v, w) = cc in
      (ap (λ (p : A × B × C). p.0) t, ap (λ (p : A × B × C). p.1) t, ap (λ (p : A × B × C). p.2) t)

-- something is not nothing
pub some_none : {A : Type 0} {x : A} → Some x ≡ None → ⊥
some_none e = let z : ◌≡◌ {A = ℕ} 0 1 = cc in omega arith

-- nor is what was answered an error, and equal errors are of one cause
pub ok_err : {T E : Type 0} {x : T} {e : E} → ◌≡◌ {A = Result T E} (Ok x) (Err e) → ⊥
ok_err h = let z : ◌≡◌ {A = ℕ} 0 1 = cc in omega arith

pub err_same : {T E : Type 0} {e f : E} → ◌≡◌ {A = Result T E} (Err e) (Err f) → e ≡ f
err_same h = cc

-- what a `?` answers with
pub passed_on : {T E : Type 0} {e : E} (r : Result T E) → IsErrAnd r (λ y. y ≡ e) → r ≡ Err e
passed_on r h = let p = err_from_is_err_and r h in rw (p.1, p.2)
