-- Document 01, Listing: the words of a row.
use Rattle.std.specs.Prelude.{ℕ, zero, suc, ◌+◌, ◌/◌, ◌%◌, ◌≡◌, List, [], ◌∷◌, ◌++◌, ltb, length, if◌then◌else◌}
use Rattle.std.proofs.lemmas.List.Edits.{sets}
use Rattle.records.specs.Base.{bytes}
use Rattle.std.specs.Borrow.{MutBor}
use Rattle.text.specs.declared.Position.{Position}
use Rattle.print.specs.declared.Output.{Output}

-- the decimal digits of n, if it has no more than so many
unfoldable pub digits : (room n : ℕ) → List ℕ
digits zero n = []
digits (suc f) n =
    let more : List ℕ = digits f (n / 10) ++ ((48 + n % 10) ∷ []) in
    if ltb n 10 then (48 + n) ∷ [] else more

-- no number here has more digits: it fits into 64 bits
unfoldable pub decimal : ℕ → List ℕ
decimal n = digits 20 n

-- words with a space between them and LF behind: every row ends with LF
unfoldable pub printed_row : List (List ℕ) → List ℕ
printed_row [] = bytes "\n"
printed_row (w ∷ []) = w ++ bytes "\n"
printed_row (w ∷ v ∷ ws) = w ++ bytes " " ++ printed_row (v ∷ ws)

-- a place: line:column
unfoldable pub place_word : Position → List ℕ
place_word p = decimal p.line ++ bytes ":" ++ decimal p.column

-- ---- what the code leaves

-- no listing is longer (crates/listing, proofs/Room.antt)
abbrev pub listing_limit : ℕ
listing_limit = 196608

-- The text was written into the output from `at` on, as far as that goes, and r is the place behind it.
pub record Puts (text out : List ℕ) (at : ℕ) (out' : List ℕ) (r : ℕ) : Type 0 where
  pub written : out' ≡ sets out at text
  pub behind : r ≡ at + length text

-- An output begins at a place of what is lent, by that same reference.
pub record Begins (at : ℕ) (lent : MutBor (List ℕ)) (output : Output) : Type 0 where
  pub whole : output.out.now ≡ lent.now
  pub place : output.at ≡ at
  pub same : output.out.ghost_name ≡ lent.ghost_name

-- The text was put into the output, and its reference is still the same.
pub record Adds (text : List ℕ) (old new : Output) : Type 0 where
  pub puts : Puts text old.out.now old.at new.out.now new.at
  pub same : new.out.ghost_name ≡ old.out.ghost_name
