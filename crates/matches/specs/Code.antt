-- How the code finds what the rows give: by the first byte, and the kind of a symbol by the keywords, then as a jet. No
-- rules of their own: proofs/Arms.antt shows that they give the rows' answer.
use Rattle.std.specs.Prelude.{ℕ, suc, ◌+◌, ◌<◌, Bool, true, ◌&&◌, ◌≡◌, List, [], ◌∷◌, length, drop, get_or, eqb, leb, ltb, if◌then◌else◌}
use Prim.Native.Char.{Char, code}
use Rattle.records.specs.Base.{bytes}
use Rattle.records.specs.TokenKind as token
use Rattle.classes.specs.Classes.{word, starts, run}
use Rattle.classes.specs.declared.Class.{Class}
use Rattle.classes.specs.declared.Class.TheVariants.{JetPart}
use Rattle.records.specs.declared.kinds.TokenKind.{TokenKind}
use Rattle.matches.specs.declared.Lexed.{Lexed}
use Rattle.matches.specs.declared.Lexed.TheVariants.{Token, NoMatch}
use Rattle.matches.specs.Rows.{Fixed, keywords}

-- the first n bytes of s are the word w
unfoldable pub is_word : (w : List ℕ) → (n : ℕ) → (s : List ℕ) → Bool
is_word w n s = eqb (length w) n && starts (word w) s

-- the bytes of t stand in w from i on
abbrev pub reads : (w : List ℕ) → (i : ℕ) → (t : List ℕ) → Bool
reads w i [] = true
reads w i (c ∷ t) = eqb (get_or w i 0) c && reads w (suc i) t

-- w is the text t: by the length, then byte by byte
abbrev pub is_text : (t w : List ℕ) → Bool
is_text t w = eqb (length t) (length w) && reads w 0 t

-- w is `jet_` and a name
unfoldable pub is_jet : (w : List ℕ) → Bool
is_jet w = leb 4 (length w) && reads w 0 (bytes "jet_") && ltb 0 (length (drop 4 w)) && eqb (run JetPart (drop 4 w)) (length (drop 4 w))

-- a kind as the code has it
abbrev pub kind : token.Kind → TokenKind
kind k = record { 0 = token.number k }

-- the first kind whose text is the word w, else the kind other
abbrev pub kind_by : List Fixed → (w : List ℕ) → (other : TokenKind) → TokenKind
kind_by [] w other = other
kind_by (f ∷ fs) w other = if is_text f.text w then kind f.kind else kind_by fs w other

-- a symbol that is no keyword is a jet or just a symbol
unfoldable pub kind_of : (w : List ℕ) → TokenKind
kind_of w = kind_by keywords w (if is_jet w then kind token.jet else kind token.symbol)

-- a literal of a kind: two bytes, then the digits of the class, at least one
abbrev pub literal : TokenKind → Class → (s : List ℕ) → Lexed
literal k c s = if ltb 0 (run c (drop 2 s)) then Token k (2 + run c (drop 2 s)) else NoMatch

-- s is not empty and begins with the character
abbrev pub Begins : Char → (s : List ℕ) → Type 0
Begins c s = (0 < length s) × (get_or s 0 0 ≡ code c)

-- the bytes that the code looks for, the last first; a byte that is none of them, as a match on a number knows it
abbrev pub keys : List ℕ
keys = bytes "#02-:\n\r\t 1?}*+)("

abbrev pub NotIn : List ℕ → ℕ → Type 0
NotIn [] b = Unit {0}
NotIn (k ∷ ks) b = NotIn ks b × (b ≡ k → ⊥)
