-- What a step of the code answers: four digits of a literal. Nothing here is of document 01.
use Rattle.std.specs.Prelude.{ℕ, ◌+◌, ◌*◌, List, get_or}
use Rattle.literals.specs.Literals.{value_of}

-- the number that four binary digits say
abbrev pub nibble_at : (digits : List ℕ) → (at : ℕ) → ℕ
nibble_at ds at =
    2 * (2 * (2 * value_of (get_or ds at 0) + value_of (get_or ds (at + 1) 0)) + value_of (get_or ds (at + 2) 0)) + value_of (get_or ds (at + 3) 0)
