-- What the code's cursor says of the tokens that are left: the place of a refusal, the next token, a token that has to come.
use Rattle.std.specs.Prelude.{ℕ, length, ◌+◌, ◌≤◌, ◌≡◌, List, [], ◌∷◌, eqb, ltb, if◌then◌else◌, Err, None, Ok, Option, Result, Some}
use Rattle.records.specs.Limits.{record_limit}
use Rattle.lex.specs.Tokens.{Token, record_of}
use Rattle.checks.specs.declared.Fault.{Fault}
use Rattle.checks.specs.declared.Fault.TheVariants.{ParseFailed}
use Rattle.records.specs.Refusals.{row_of}
use Rattle.records.specs.declared.refusals.Refusal.{Refusal}
use Rattle.checks.specs.Checks.{refused_at}
use Rattle.cursor.specs.Tokens.{tokens_left}
use Rattle.cursor.specs.declared.Cursor.{Cursor}
use Rattle.cursor.specs.declared.ParseRefusal.{ParseRefusal}
use Rattle.records.specs.declared.TokenRecord.{TokenRecord}

-- what a parser answers: what it read and the cursor behind it, or a refusal
abbrev pub Answer : Type 0 → Type 0
Answer T = Result (T × Cursor) ParseRefusal

-- Document 01: the place of a refusal is the token that is not accepted; end of source as a place is the source's length.
abbrev pub place_of_left : (end : ℕ) → List Token → ℕ
place_of_left end [] = end
place_of_left end (t ∷ ts) = t.start

abbrev pub refusal_at : (end : ℕ) → Fault → List Token → ParseRefusal
refusal_at end x ts = record { fault = x; at = record { 0 = place_of_left end ts } }

-- its row of the table of refusals
abbrev pub row_of_refused : ParseRefusal → Refusal
row_of_refused r = row_of (refused_at r.at.0 r.fault)

-- the cursor behind one token more
abbrev pub stepped : Cursor → Cursor
stepped c = record { token = record { 0 = c.token.0 + 1 }; expr = c.expr; ty = c.ty }

-- the next token
abbrev pub peeked : Cursor → List Token → Option (TokenRecord × Cursor)
peeked c [] = None
peeked c (t ∷ ts) = Some ((record_of t), (stepped c))

-- the next token, which has to be of the kind with this number
unfoldable pub expected : (end : ℕ) → Cursor → (kind : ℕ) → List Token → Result Cursor ParseRefusal
expected end c k [] = Err (refusal_at end ParseFailed [])
expected end c k (t ∷ ts) = if eqb t.kind.0 k then Ok (stepped c) else Err (refusal_at end ParseFailed (t ∷ ts))

-- behind what was read: a token of the kind with this number
abbrev pub closed_by : {T : Type 0} → T → Result Cursor ParseRefusal → Answer T
closed_by x (Ok d) = Ok (x, d)
closed_by x (Err r) = Err r

unfoldable pub closed : {T : Type 0} → (source tokens : List ℕ) → (n kind : ℕ) → Answer T → Answer T
closed s t n k (Ok (x, c)) = closed_by x (expected (length s) c k (tokens_left s t n c.token.0))
closed s t n k (Err r) = Err r

-- record numbers end with the last record
unfoldable pub next_number : ℕ → ℕ
next_number n = if ltb n record_limit then n + 1 else n

-- what a parser's cursor keeps to: no more tokens passed than there are, no more records made than tokens passed
pub record Ready (n : ℕ) (c : Cursor) : Type 0 where
  pub few : n ≤ record_limit
  pub inside : c.token.0 ≤ n
  pub exprs : c.expr.0 ≤ c.token.0
  pub types : c.ty.0 ≤ c.token.0

-- from the cursor c a parser reached d: `rest` is left of the n tokens, with e expressions and t types recorded on the way, no
-- more than tokens passed
pub record Reached (source tokens : List ℕ) (n : ℕ) (c d : Cursor) (rest : List Token) (e t : ℕ) : Type 0 where
  pub inside : d.token.0 ≤ n
  pub left : tokens_left source tokens n d.token.0 ≡ rest
  pub exprs : d.expr.0 ≡ c.expr.0 + e
  pub types : d.ty.0 ≡ c.ty.0 + t
  pub room : (e + c.token.0 ≤ d.token.0) × (t + c.token.0 ≤ d.token.0)
