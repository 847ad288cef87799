-- Document 01: the jet list is text split at newline bytes (10); a jet is known exactly if the bytes after `jet_` equal one
-- piece. Of this page the grammar sees `known` alone.
use Rattle.std.specs.Prelude.{ℕ, Bool, true, false, ◌&&◌, ◌||◌, ◌⊎◌, ◌≡◌, drop, eqb, if◌then◌else◌}
use mathlib.Core.List.{List, [], ◌∷◌, ◌++◌, Memᴰ}

-- ---- what is right

-- p is a piece of the list: no newline is in it, and before and after it stands a newline or nothing
pub record Piece (p jets : List ℕ) : Type 0 where
  pub before : List ℕ
  pub after : List ℕ
  pub whole : jets ≡ before ++ (p ++ after)
  pub unbroken : Memᴰ 10 p → ⊥
  pub begins : (before ≡ []) ⊎ ((a : List ℕ) × (before ≡ a ++ (10 ∷ [])))
  pub ends : (after ≡ []) ⊎ ((b : List ℕ) × (after ≡ 10 ∷ b))

-- ---- the same by computing (proofs/Jets.antt: `known_piece`)

-- b in front of the first piece
abbrev pub pushed : ℕ → List (List ℕ) → List (List ℕ)
pushed b [] = (b ∷ []) ∷ []
pushed b (p ∷ ps) = (b ∷ p) ∷ ps

-- the piece after the last newline counts
unfoldable pub pieces : (jets : List ℕ) → List (List ℕ)
pieces [] = [] ∷ []
pieces (b ∷ s) = if eqb b 10 then [] ∷ pieces s else pushed b (pieces s)

-- equal byte by byte
unfoldable pub same : List ℕ → List ℕ → Bool
same [] [] = true
same [] (y ∷ ys) = false
same (x ∷ xs) [] = false
same (x ∷ xs) (y ∷ ys) = eqb x y && same xs ys

unfoldable pub is_one_of : List ℕ → List (List ℕ) → Bool
is_one_of x [] = false
is_one_of x (p ∷ ps) = same x p || is_one_of x ps

-- by a jet token's text
unfoldable pub known : (jets text : List ℕ) → Bool
known jets text = is_one_of (drop 4 text) (pieces jets)
