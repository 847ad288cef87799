-- A place is put as its line, a colon and its column, and each has room where the whole has. Assumes nothing.
use Prim.Native.Nat.{ℕ, ◌+◌, ◌≤◌, ◌<◌}
use mathlib.Core.Path.{◌≡◌, sym}
use mathlib.Core.List.{[], ◌∷◌}
use native.Mathlib.Omega.{arith}
use lib.ListN.{length, length-append}
use Rattle.text.specs.declared.Position.{Position}
use Rattle.print.specs.declared.Output.{Output}
use Rattle.print.specs.Text.{decimal, place_word, listing_limit, Adds}
use Rattle.print.proofs.Putting.{adds_then}

module _ {p q : Position} (e : p ≡ q) where
  lengths : (at : ℕ) → at + length (place_word q) ≤ listing_limit → at + length (decimal p.line) + 1 + length (decimal p.column) ≤ listing_limit
  unfolding place_word
  lengths at h = rw e (omega (arith, simp length-append at h))

  pub line_fits : (at : ℕ) → at + length (place_word q) ≤ listing_limit → at + length (decimal p.line) ≤ listing_limit
  line_fits at h = omega (arith, lengths at h)

  module _ {old one : Output} (line : Adds (decimal p.line) old one) where
    pub colon_fits : old.at + length (place_word q) ≤ listing_limit → one.at < listing_limit
    colon_fits h = omega (arith, lengths old.at h, line.puts.behind)

    module _ {two : Output} (colon : Adds (58 ∷ []) one two) where
      pub column_fits : old.at + length (place_word q) ≤ listing_limit → two.at + length (decimal p.column) ≤ listing_limit
      column_fits h = omega (arith, lengths old.at h, line.puts.behind, colon.puts.behind)

      pub adds_place : {new : Output} → Adds (decimal p.column) two new → Adds (place_word q) old new
      unfolding place_word
      adds_place column = rw (sym e) (adds_then (adds_then line colon) column)
