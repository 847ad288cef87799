-- Pieces of a row put one behind the other. Assumes nothing.
use Prim.Native.Nat.{ℕ, ◌≤◌, ◌<◌}
use mathlib.Core.Path.{◌≡◌}
use mathlib.Core.List.{List, [], ◌∷◌}
use native.Mathlib.Omega.{arith}
use lib.ListN.{length}
use Rattle.std.specs.Borrow.{MutBor}
use Rattle.print.specs.declared.Output.{Output}
use Rattle.print.specs.Text.{listing_limit, Begins, Adds}
use Rattle.print.proofs.Putting as print
use Rattle.rows.specs.Words.{◌then◌, Room}

-- ---- one text behind the other

-- where both have room, the first has
pub first_fits : {a : List ℕ} {old : Output} (b : List ℕ) → Room old (a then b) → Room old a
unfolding ◌then◌
first_fits {a} {old} b h = record { fits = print.first_fits listing_limit old.at a b h.fits }

module _ {a : List ℕ} {old mid : Output} (p : Adds a old mid) where
  -- and the second has, behind the first
  pub rest_fits : {b : List ℕ} → Room old (a then b) → Room mid b
  unfolding ◌then◌
  rest_fits {b} h = record { fits = print.rest_fits p listing_limit b h.fits }

  pub adds_then : {b : List ℕ} {new : Output} → Adds b mid new → Adds (a then b) old new
  unfolding ◌then◌
  adds_then q = print.adds_then p q

-- a byte has room
pub byte_fits : {old : Output} {e : ℕ} → Room old (e ∷ []) → old.at < listing_limit
byte_fits h = omega (arith, h.fits)

-- the same text in other words
module _ {a b : List ℕ} (e : a ≡ b) where
  pub same_adds : {old new : Output} → Adds b old new → Adds a old new
  same_adds p = rw e p

  pub same_fits : {old : Output} → Room old a → Room old b
  same_fits h = rw e at h

-- a whole listing has room from the front of what is lent
pub whole_fits : {lent : MutBor (List ℕ)} {first : Output} → Begins 0 lent first → (text : List ℕ) → length text ≤ listing_limit → Room first text
whole_fits b text h = record { fits = omega (arith, b.place) }
