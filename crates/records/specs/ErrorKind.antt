-- Document 01, Listing: the kinds of errors.
use Rattle.std.specs.Prelude.{ℕ, List, [], ◌∷◌}

pub data Kind : Type 0 where
  illegal repeated missing incomplete : Kind

-- the kinds in the order of the page
abbrev pub kinds : List Kind
kinds =
    illegal ∷ repeated ∷ missing ∷ incomplete ∷ []

-- they count from 1
abbrev pub number : Kind → ℕ
number illegal = 1
number repeated = 2
number missing = 3
number incomplete = 4
