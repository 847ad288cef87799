-- Document 01, Sizes: the kinds of types.
use Rattle.std.specs.Prelude.{ℕ, List, [], ◌∷◌}

pub data Kind : Type 0 where
  name one two product sum power : Kind

-- the kinds in the order of the page
abbrev pub kinds : List Kind
kinds =
    name ∷ one ∷ two ∷ product ∷ sum ∷ power ∷ []

-- they count from 1
abbrev pub number : Kind → ℕ
number name = 1
number one = 2
number two = 3
number product = 4
number sum = 5
number power = 6
