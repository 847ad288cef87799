-- What the functions on text need of the definitions. Assumes nothing.
use Rattle.std.specs.Prelude.{if◌then◌else◌, Ok, Result}
use Prim.Native.Nat.{ℕ, zero, suc, pred, ◌+◌, ◌-◌, ◌≤◌, ◌<◌}
use mathlib.Core.Bool.{Bool, true, false, ◌&&◌, and-true, or-false}
use mathlib.Core.Path.{◌≡◌, refl, sym, ap, ◌∙◌}
use mathlib.Core.List.{List, [], ◌∷◌, ◌++◌}
use native.Mathlib.Omega.{arith}
use native.Mathlib.Numerals.{add-one}
use native.Mathlib.Nat.{add-zero}
use lib.Dec.{eqb}
use lib.ListN.{length, get_or, take, drop, length-drop, length-append, drop_of_length-le}
use lib.Seq.{take_all, drop-cons, drop-drop}
use borrow.Author.Tests.{ne_eqb}
use Rattle.records.proofs.Choices.{if_or, and_left, and_right}
use Rattle.records.specs.Base.{within}
use Rattle.std.specs.List.{list_all}
use Rattle.text.specs.Utf8.{utf8_1, utf8_2, utf8_3, utf8_4}
use Rattle.text.specs.Check.{bad_at, begins_by, char_len, check_from, check_text}
use Rattle.text.proofs.Chars.{char_inside}
use Rattle.text.specs.declared.TextError.{TextError}

-- ---- a character's length, by four tests, past the end of the text a 0 serving as well

unfoldable pub by_tests : (a b c d : ℕ) → ℕ
by_tests a b c d =
    if begins_by utf8_1 (a ∷ []) then 1
    else if begins_by utf8_2 (a ∷ b ∷ []) then 2
    else if begins_by utf8_3 (a ∷ b ∷ c ∷ []) then 3
    else if begins_by utf8_4 (a ∷ b ∷ c ∷ d ∷ []) then 4
    else 0

four_bytes : (a b c d : ℕ) → char_len (a ∷ b ∷ c ∷ d ∷ []) ≡ by_tests a b c d
unfolding char_len by_tests
four_bytes a b c d = simp (and-true, or-false, if_or)

first_four : (a : ℕ) (t : List ℕ) → char_len (a ∷ t) ≡ char_len (a ∷ get_or t 0 0 ∷ get_or t 1 0 ∷ get_or t 2 0 ∷ [])
unfolding char_len
first_four a [] = refl
first_four a (b ∷ []) = refl
first_four a (b ∷ c ∷ []) = refl
first_four a (b ∷ c ∷ d ∷ t) = refl

pub char_tests : (s : List ℕ) → 0 < length s → char_len s ≡ by_tests (get_or s 0 0) (get_or s 1 0) (get_or s 2 0) (get_or s 3 0)
char_tests [] h = absurd (omega arith)
char_tests (a ∷ t) h = first_four a t ∙ four_bytes a (get_or t 0 0) (get_or t 1 0) (get_or t 2 0)

module _ (s : List ℕ) (h : 0 < length s) where
  pub by_tests_law : (a b c d : ℕ) → a ≡ get_or s 0 0 → b ≡ get_or s 1 0 → c ≡ get_or s 2 0 → d ≡ get_or s 3 0 → char_len s ≡ by_tests a b c d
  by_tests_law a b c d ea eb ec ed = char_tests s h ∙ rw (ea, eb, ec, ed)

pub char_answer : (s : List ℕ) (n : ℕ) → char_len s ≡ n → (n ≡ char_len s) × (n ≤ length s)
char_answer s n e = (sym e, rw e at (char_inside s))

-- ---- the text from an offset on

check_skip : (at k : ℕ) (s : List ℕ) → check_from at k s ≡ check_from (at + k) 0 (drop k s)
unfolding check_from
check_skip at zero s = rw add-zero
check_skip at (suc k) [] = refl
check_skip at (suc k) (b ∷ s) = check_skip (suc at) k s ∙ ap (λ (n : ℕ). check_from n 0 (drop k s)) (omega arith)

-- a character at the front, or none
pub check_one : (at : ℕ) (s : List ℕ) → 0 < length s → check_from at 0 s ≡ (if eqb (char_len s) 0 then bad_at at else check_from (at + char_len s) 0 (drop (char_len s) s))
unfolding check_from
check_one at [] h = absurd (omega arith)
check_one at (b ∷ t) h = go (char_len (b ∷ t))
  where
    go : (n : ℕ) → (if eqb n 0 then bad_at at else check_from (suc at) (pred n) t) ≡ (if eqb n 0 then bad_at at else check_from (at + n) 0 (drop n (b ∷ t)))
    go zero = refl
    go (suc m) = ap (λ (x : Result (Unit {0}) TextError). if eqb (suc m) 0 then bad_at at else x) (check_skip (suc at) m t ∙ ap (λ (k : ℕ). check_from k 0 (drop m t)) (omega arith))

-- n is the length of the character at i, as the code has it of the part from i on
module _ (s : List ℕ) (i n : ℕ) (h : i < length s) (e : n ≡ char_len (take (length s - i) (drop i s))) where
  some_left : 0 < length (drop i s)
  some_left = simp length-drop (omega arith)

  of_rest : n ≡ char_len (drop i s)
  of_rest = e ∙ ap char_len (take_all (length s - i) (drop i s) (simp length-drop (omega arith)))

  pub check_bad : n ≡ 0 → check_from i 0 (drop i s) ≡ bad_at i
  check_bad z = check_one i (drop i s) some_left ∙ rw (← of_rest, z)

  pub check_more : (n ≡ 0 → ⊥) → check_from i 0 (drop i s) ≡ check_from (i + n) 0 (drop (i + n) s)
  check_more z = check_one i (drop i s) some_left ∙ rw (← of_rest, ne_eqb n 0 z, drop-drop)

pub check_end : (s : List ℕ) (i : ℕ) → length s ≤ i → check_from i 0 (drop i s) ≡ Ok tt
unfolding check_from
check_end s i h = rw (drop_of_length-le s h)

-- ---- ASCII at the front

-- a byte is a character
abbrev pub single : ℕ → Bool
single b = begins_by utf8_1 (b ∷ [])

drop-length : (s t : List ℕ) → drop (length s) (s ++ t) ≡ t
drop-length [] t = refl
drop-length (a ∷ s) t = drop-length s t

-- such bytes are passed,
ascii_passed : (at : ℕ) (block rest : List ℕ) → list_all single block ≡ true → check_from at 0 (block ++ rest) ≡ check_from (at + length block) 0 rest
unfolding check_from char_len
ascii_passed at [] rest h = rw add-zero
ascii_passed at (b ∷ block) rest h =
    let one : single b ≡ true = and_left (single b) _ h in
    let w : within 0 127 b ≡ true = simp (and-true, or-false) at one in
    rw w (ascii_passed (suc at) block rest (and_right (single b) _ h) ∙ ap (λ (n : ℕ). check_from n 0 rest) (omega arith))

-- byte by byte,
pub ascii_byte : (s : List ℕ) (i : ℕ) (x : Bool) {y : Bool} → i < length s → y ≡ single (get_or s i 0) → list_all single s ≡ (x && list_all single (drop i s)) → list_all single s ≡ ((x && y) && list_all single (drop (i + 1) s))
ascii_byte s i x {y} h e f = f ∙ rw (drop-cons s i 0 h, ← e, add-one i) (go x)
  where
    go : (b : Bool) → (b && (y && list_all single (drop (suc i) s))) ≡ ((b && y) && list_all single (drop (suc i) s))
    go true = refl
    go false = refl

pub ascii_whole : (s : List ℕ) (i : ℕ) {x : Bool} → length s ≤ i → list_all single s ≡ (x && list_all single (drop i s)) → x ≡ list_all single s
ascii_whole s i {x} h f = sym (f ∙ rw (drop_of_length-le s h) (and-true x))

-- what is passed of a text, and what is left
abbrev pub Passed : (s rest : List ℕ) (i : ℕ) → Type 0
Passed s rest i = (i + length rest ≡ length s) × (rest ≡ drop i s) × (check_text s ≡ check_from i 0 rest)

-- and block by block
pub ascii_block : (s block left : List ℕ) (i : ℕ) {rest : List ℕ} {y : Bool} → rest ≡ block ++ left → y ≡ list_all single block → y ≡ true → Passed s rest i → Passed s left (i + length block)
ascii_block s block left i {rest} e f h (n, d, p) = (omega (arith, ap length e ∙ length-append block left), behind, p ∙ rw e (ascii_passed i block left (sym f ∙ h)))
  where
    behind : left ≡ drop (i + length block) s
    behind = sym (drop-length block left) ∙ ap (drop (length block)) (sym e ∙ d) ∙ drop-drop (length block) i s
