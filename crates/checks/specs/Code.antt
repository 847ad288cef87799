-- What the steps of the code answer: exponents up to a cap, and the search for a jet. Nothing here is of document 01.
use Rattle.std.specs.Prelude.{ℕ, zero, suc, min, ◌+◌, Bool, false, ◌&&◌, ◌||◌, List, [], ◌∷◌, eqb, length, drop, get_or}
use Rattle.classes.specs.Classes.{run}
use Rattle.classes.specs.declared.Class.TheVariants.{NotLf}
use Rattle.matches.specs.Code.{is_word}

-- ---- exponents

-- one above the largest that passes
abbrev pub exponent_cap : ℕ
exponent_cap = 4294967296

unfoldable pub capped : ℕ → ℕ
capped n = min n exponent_cap

-- ---- the search for a jet

-- the name is the first piece of s
unfoldable pub is_first : (name s : List ℕ) → Bool
is_first name s = is_word name (run NotLf s) s

-- the name is the piece behind a newline at an offset
unfoldable pub is_behind : (name jets : List ℕ) → (at : ℕ) → Bool
is_behind name jets at = eqb (get_or jets at 0) 10 && is_first name (drop (at + 1) jets)

-- the name is a piece behind a newline of s
unfoldable pub is_later : (name s : List ℕ) → Bool
is_later name [] = false
is_later name (b ∷ s) = (eqb b 10 && is_first name s) || is_later name s

-- ---- the edges of a name between two newlines

-- its first byte, and its last; of the empty name the newline behind it, and the one before it
unfoldable pub first_of : (name : List ℕ) → ℕ
first_of name = get_or name 0 10

unfoldable pub last_of : (name : List ℕ) → ℕ
last_of name = get_or (10 ∷ name) (length name) 10

-- offset i has a newline, and behind it m bytes with this first and last one, and a newline
unfoldable pub edged : (jets : List ℕ) → (m first last i : ℕ) → Bool
edged jets m first last i =
    eqb (get_or jets i 0) 10 && eqb (get_or jets (i + 1) 0) first && eqb (get_or jets (i + m) 0) last && eqb (get_or jets (i + m + 1) 0) 10

-- the offsets that are tested together
abbrev pub block_size : ℕ
block_size = 64

-- one of the n offsets from `at` on has that
unfoldable pub any_edged : (jets : List ℕ) → (m first last at n : ℕ) → Bool
any_edged jets m first last at zero = false
any_edged jets m first last at (suc n) = any_edged jets m first last at n || edged jets m first last (at + n)
