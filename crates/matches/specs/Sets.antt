-- Document 01, Tokens: what "the longest match wins" says, in terms of sets of byte strings.
use Rattle.std.specs.Prelude.{ℕ, ◌≤◌, ◌<◌, true, ◌≡◌, List, [], ◌∷◌, ◌++◌, length, take}
use Rattle.classes.specs.Classes.{has}
use Rattle.classes.specs.declared.Class.{Class}
use Rattle.matches.specs.declared.Lexed.{Lexed}
use Rattle.matches.specs.declared.Lexed.TheVariants.{NoMatch}
use Rattle.matches.specs.Rows.{Rest, any, Row}
use Rattle.matches.specs.Longest.{made}

-- the byte strings of a row: a byte of each class of the fixed part, then, if there is a rest, any number of bytes of its
-- class
pub data Has : List Class → Rest → List ℕ → Type 0 where
  end : {r : Rest} → Has [] r []
  more : {c : Class} {b : ℕ} {w : List ℕ} → has c b ≡ true → Has [] (any c) w → Has [] (any c) (b ∷ w)
  byte : {c : Class} {cs : List Class} {r : Rest} {b : ℕ} {w : List ℕ} → has c b ≡ true → Has cs r w → Has (c ∷ cs) r (b ∷ w)

-- the first n bytes of s are a string of the row
pub record Front (r : Row) (s : List ℕ) (n : ℕ) : Type 0 where
  pub inside : n ≤ length s
  pub string : Has r.fixed r.rest (take n s)

pub data Among : Row → List Row → Type 0 where
  here : {r : Row} {rs : List Row} → Among r (r ∷ rs)
  later : {r q : Row} {rs : List Row} → Among r rs → Among r (q ∷ rs)

-- the row r, which stands below the rows of `before`, wins with n bytes: no row has a longer front, and none of those above
-- it has one as long
pub record Wins (before : List Row) (r : Row) (after : List Row) (s : List ℕ) (n : ℕ) : Type 0 where
  pub some : 0 < n
  pub front : Front r s n
  pub longest : (q : Row) → Among q (before ++ r ∷ after) → (m : ℕ) → Front q s m → m ≤ n
  pub first : (q : Row) → Among q before → Front q s n → ⊥

-- the answer for s: the winning row's kind and length, or that no row has a front of s
pub data Lexes (rs : List Row) (s : List ℕ) : Lexed → Type 0 where
  wins : (before : List Row) (r : Row) (after : List Row) (n : ℕ) {l : Lexed} → rs ≡ before ++ r ∷ after → Wins before r after s n → l ≡ made r.kind n → Lexes rs s l
  nothing : ((q : Row) → Among q rs → (n : ℕ) → Front q s n → ⊥) → Lexes rs s NoMatch
