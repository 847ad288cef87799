-- Words that are zero, and words set to zero: what `clear` looks for, and what it does. Nothing here is of document 01.
use Rattle.std.specs.Prelude.{ℕ, ◌-◌, Bool, true, ◌&&◌, List, [], ◌∷◌, eqb, replicate}
use Rattle.std.proofs.lemmas.List.Edits.{sets}

-- every word is zero
unfoldable pub all_zero : List ℕ → Bool
all_zero [] = true
all_zero (w ∷ ws) = eqb w 0 && all_zero ws

-- the words with zeros from `from` up to `to`
unfoldable pub zeroed : (table : List ℕ) → (from to : ℕ) → List ℕ
zeroed table from to = sets table from (replicate (to - from) 0)
