-- Document 01, Tokens: the longest match wins, by computing (proofs/Longest.antt: it is just what Sets.antt declares).
use Rattle.std.specs.Prelude.{ℕ, ◌+◌, ◌&&◌, List, [], ◌∷◌, length, drop, leb, ltb, if◌then◌else◌}
use Rattle.std.proofs.Math.Option.{Option, none, some}
use Rattle.records.specs.TokenKind as token
use Rattle.classes.specs.Classes.{starts, run}
use Rattle.matches.specs.declared.Lexed.{Lexed}
use Rattle.matches.specs.declared.Lexed.TheVariants.{Token, Skip, NoMatch}
use Rattle.matches.specs.Rows.{Rest, stop, any, Row, rows}

abbrev pub run_rest : Rest → List ℕ → ℕ
run_rest stop s = 0
run_rest (any c) s = run c s

-- the length of the longest front of s that the row has, 0 where it has none
unfoldable pub match_len : Row → List ℕ → ℕ
match_len r s = if starts r.fixed s then length r.fixed + run_rest r.rest (drop (length r.fixed) s) else 0

-- n bytes of a kind
abbrev pub lexed_as : token.Kind → ℕ → Lexed
lexed_as k n = Token (record { 0 = token.number k }) n

-- n bytes of a row: a token, or bytes to skip
abbrev pub made : Option token.Kind → ℕ → Lexed
made none n = Skip n
made (some k) n = lexed_as k n

abbrev pub len_of : Lexed → ℕ
len_of (Token k n) = n
len_of (Skip n) = n
len_of NoMatch = 0

-- a match of n bytes of a row against the best of the rows below
abbrev pub better : Option token.Kind → ℕ → Lexed → Lexed
better k n l = if ltb 0 n && leb (len_of l) n then made k n else l

-- the longest match, and of several the upper row's
unfoldable pub best : List Row → List ℕ → Lexed
best [] s = NoMatch
best (r ∷ rs) s = better r.kind (match_len r s) (best rs s)

-- what stands at the front of s
unfoldable pub lex_at : List ℕ → Lexed
lex_at s = best rows s
