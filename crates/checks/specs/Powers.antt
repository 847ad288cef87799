-- Document 01, Grammar: powers of two, and the exponent behind `2^`.
use Rattle.std.specs.Prelude.{ℕ, zero, suc, ◌+◌, ◌-◌, ◌*◌, ◌^◌, ◌<◌, ◌≡◌, List, [], ◌∷◌, drop, eqb, if◌then◌else◌, None, Option, Some}

-- ---- powers of two

-- the k below the bound with 2 ^ k ≡ n, if there is one
unfoldable pub log2 : (bound n : ℕ) → Option ℕ
log2 zero n = None
log2 (suc k) n =
    let smaller : Option ℕ = log2 k n in
    if eqb n (2 ^ k) then Some k else smaller

-- what is right to answer, without computing
abbrev pub RightLog2 : (bound n : ℕ) → Option ℕ → Type 0
RightLog2 bound n (Some k) = (n ≡ 2 ^ k) × (k < bound)
RightLog2 bound n None = (k : ℕ) → k < bound → n ≡ 2 ^ k → ⊥

-- ---- the exponent of a power of two

-- the number that decimal digits say
unfoldable pub number_from : ℕ → List ℕ → ℕ
number_from n [] = n
number_from n (d ∷ ds) = number_from (10 * n + (d - 48)) ds

-- the exponent: what stands behind `2^`
abbrev pub exponent_of : (text : List ℕ) → ℕ
exponent_of text = number_from 0 (drop 2 text)
