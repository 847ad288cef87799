-- RFC 3629, section 4: the grammar of a character, as a table, and text as a sequence of characters.
use Rattle.std.specs.Prelude.{ℕ, ◌≤◌, ◌<◌, List, [], ◌∷◌, ◌++◌, length, take}

-- the bytes from lo to hi
pub record Range : Type 0 where
  pub lo : ℕ
  pub hi : ℕ

abbrev pub range : ℕ → ℕ → Range
range a b = record { lo = a; hi = b }

-- UTF8-tail
abbrev pub tail : Range
tail = range 0x80 0xBF

-- UTF8-1 to UTF8-4, the lines of each in the grammar's order
abbrev pub utf8_1 : List (List Range)
utf8_1 = (range 0x00 0x7F ∷ []) ∷ []

abbrev pub utf8_2 : List (List Range)
utf8_2 = (range 0xC2 0xDF ∷ tail ∷ []) ∷ []

abbrev pub utf8_3 : List (List Range)
utf8_3 =
    (range 0xE0 0xE0 ∷ range 0xA0 0xBF ∷ tail ∷ []) ∷
    (range 0xE1 0xEC ∷ tail ∷ tail ∷ []) ∷
    (range 0xED 0xED ∷ range 0x80 0x9F ∷ tail ∷ []) ∷
    (range 0xEE 0xEF ∷ tail ∷ tail ∷ []) ∷ []

abbrev pub utf8_4 : List (List Range)
utf8_4 =
    (range 0xF0 0xF0 ∷ range 0x90 0xBF ∷ tail ∷ tail ∷ []) ∷
    (range 0xF1 0xF3 ∷ tail ∷ tail ∷ tail ∷ []) ∷
    (range 0xF4 0xF4 ∷ range 0x80 0x8F ∷ tail ∷ tail ∷ []) ∷ []

-- UTF8-char
abbrev pub rules : List (List Range)
rules = utf8_1 ++ utf8_2 ++ utf8_3 ++ utf8_4

-- byte by byte within the ranges of a rule, and as many
pub data Fits : List Range → List ℕ → Type 0 where
  done : Fits [] []
  byte : {r : Range} {rs : List Range} {b : ℕ} {bs : List ℕ} → r.lo ≤ b → b ≤ r.hi → Fits rs bs → Fits (r ∷ rs) (b ∷ bs)

-- one of the rules has it
pub data Char : List (List Range) → List ℕ → Type 0 where
  here : {r : List Range} {rs : List (List Range)} {c : List ℕ} → Fits r c → Char (r ∷ rs) c
  later : {r : List Range} {rs : List (List Range)} {c : List ℕ} → Char rs c → Char (r ∷ rs) c

-- UTF8-octets: a sequence of characters
pub data Utf8 : List ℕ → Type 0 where
  none : Utf8 []
  more : {c t : List ℕ} → Char rules c → Utf8 t → Utf8 (c ++ t)

-- n is the first byte of the first ill-formed sequence: the bytes before it are the longest well-formed front
pub record BadPlace (s : List ℕ) (n : ℕ) : Type 0 where
  pub inside : n < length s
  pub good : Utf8 (take n s)
  pub longest : (m : ℕ) → m ≤ length s → Utf8 (take m s) → m ≤ n
