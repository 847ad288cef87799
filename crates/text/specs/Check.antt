-- Document 01, refusal 3: what is right, what computes it, and its row.
use Rattle.std.specs.Prelude.{ℕ, zero, suc, pred, Bool, true, false, ◌&&◌, ◌||◌, List, [], ◌∷◌, length, eqb, if◌then◌else◌, Err, Ok, Result}
use Rattle.records.specs.Base.{within}
use Rattle.records.specs.Refusals.{not_utf8, row_of, row_by}
use Rattle.records.specs.declared.refusals.Refusal.{Refusal}
use Rattle.text.specs.declared.TextError.{TextError}
use Rattle.text.specs.Utf8.{Range, rules, Utf8, BadPlace}

-- ---- what is right

-- valid exactly if the bytes are a sequence of characters; else the first byte of the first ill-formed sequence
abbrev pub Right : List ℕ → Result (Unit {0}) TextError → Type 0
Right s (Ok _) = Utf8 s
Right s (Err n) = BadPlace s n.at

-- ---- the same by computing (proofs/Declared.antt: `check_right`, `right_once`)

-- s begins with a byte of each range
abbrev pub begins : List Range → List ℕ → Bool
begins [] s = true
begins (r ∷ rs) [] = false
begins (r ∷ rs) (b ∷ s) = within r.lo r.hi b && begins rs s

-- s begins with a character by one of the rules
abbrev pub begins_by : List (List Range) → List ℕ → Bool
begins_by [] s = false
begins_by (r ∷ rs) s = begins r s || begins_by rs s

-- how many bytes the character at the front of s has by the first rule that fits, 0 where none does
abbrev pub length_by : List (List Range) → List ℕ → ℕ
length_by [] s = 0
length_by (r ∷ rs) s = if begins r s then length r else length_by rs s

unfoldable pub char_len : List ℕ → ℕ
char_len s = length_by rules s

-- what is found where no character stands at this offset
abbrev pub bad_at : (at : ℕ) → Result (Unit {0}) TextError
bad_at n = Err (record { at = n })

-- s stands at the offset `at`, and `skip` bytes of a character are still to pass
unfoldable pub check_from : (at skip : ℕ) → List ℕ → Result (Unit {0}) TextError
check_from at skip [] = Ok tt
check_from at (suc skip) (b ∷ s) = check_from (suc at) skip s
check_from at zero (b ∷ s) =
    let n : ℕ = char_len (b ∷ s) in
    let later : Result (Unit {0}) TextError = check_from (suc at) (pred n) s in
    if eqb n 0 then bad_at at else later

abbrev pub check_text : (source : List ℕ) → Result (Unit {0}) TextError
check_text source = check_from 0 0 source

-- ---- its row

abbrev pub row_of_text_error : TextError → Refusal
row_of_text_error e = row_of (not_utf8 e.at)

abbrev pub row_of_text : Result (Unit {0}) TextError → Refusal
row_of_text a = row_by row_of_text_error a
