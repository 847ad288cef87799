-- The first root from a number on, step by step. Assumes nothing.
use Rattle.std.specs.Prelude.{if◌then◌else◌}
use Prim.Native.Nat.{ℕ, zero, suc, ◌+◌, ◌-◌, ◌≤◌, ◌<◌, min}
use mathlib.Core.Bool.{Bool, true, false, and-false}
use mathlib.Core.Path.{◌≡◌, refl}
use mathlib.Core.List.{List}
use native.Mathlib.Omega.{arith}
use native.Mathlib.Numerals.{add-one}
use borrow.Author.Tests.{lt-leb, ltb-true, ltb-false}
use lib.Dec.{ltb}
use Rattle.records.specs.Limits.{record_limit}
use Rattle.access.specs.Access.{is_root_at, root_from, next_root}

module _ (names : List ℕ) (named : ℕ) (nodes : List ℕ) (made : ℕ) where
  -- the first root from number k on
  abbrev pub first_from : ℕ → ℕ
  first_from k = root_from names named nodes made (suc record_limit - k) k

  -- a number past the last name is no root,
  no_root : (k : ℕ) → named < k → is_root_at names named nodes made k ≡ false
  unfolding is_root_at
  no_root k h = simp (lt-leb k named h, and-false)

  none_past : (f k : ℕ) → named < k → root_from names named nodes made f k ≡ 0
  unfolding root_from
  none_past zero k h = refl
  none_past (suc f) k h = rw (no_root k h) (none_past f (suc k) (omega arith))

  -- so that none is left past the last or past the limit,
  pub first_none : {k : ℕ} → min named record_limit < k → first_from k ≡ 0
  unfolding root_from
  first_none {k} h = go (ltb named k) refl
    where
      go : (b : Bool) → ltb named k ≡ b → first_from k ≡ 0
      go true t = none_past (suc record_limit - k) k (ltb-true named k t)
      go false t =
          let l : k ≤ named = ltb-false named k t in
          let e : suc record_limit - k ≡ 0 = omega arith in
          rw e

  -- or number k is a root, or it is none
  pub first_step : {k : ℕ} → k ≤ record_limit → first_from k ≡ (if is_root_at names named nodes made k then k else first_from (k + 1))
  unfolding root_from
  first_step {k} h =
      let e : suc record_limit - k ≡ suc (suc record_limit - (k + 1)) = omega arith in
      rw (e, add-one k)

  -- behind a name is from the next number on
  pub next_from : (after : ℕ) → next_root names named nodes made after ≡ first_from (after + 1)
  unfolding next_root
  next_from after =
      let e : record_limit - after ≡ suc record_limit - suc after = omega arith in
      rw (e, add-one after)
