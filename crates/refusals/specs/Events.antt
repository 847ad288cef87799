-- Document 01, Refusals, rows 6 to 13: what stands at the place of a refusal, by its fault. The tokens of `front` are accepted,
-- and `left` begins with the refused one (proofs/Events.antt: `no_file_event`). That all before it is accepted say the rules of
-- Refuses.antt.
use Rattle.std.specs.Prelude.{ℕ, ◌+◌, ◌^◌, ◌≤◌, ◌<◌, ◌≡◌, List, [], ◌∷◌, ◌++◌, length, drop}
use Rattle.records.specs.Limits.{depth_limit}
use Rattle.records.specs.TokenKind as token
use Rattle.lex.specs.Tokens.{Token}
use Rattle.checks.specs.declared.Fault.{Fault}
use Rattle.checks.specs.declared.Fault.TheVariants.{ParseFailed, BadWordLength, EntropyInsufficient, EntropyTooMuch, UnknownJet, Bad2ExpNumber, NumberOutOfRange, TooDeep}
use Rattle.literals.specs.Literals.{bit_length}
use Rattle.checks.specs.Powers.{exponent_of}
use Rattle.checks.specs.Jets.{Piece}
use Rattle.checks.specs.Checks.{Checks, word_bound, checks_of}
use Rattle.grammar.specs.Tree.{Line}
use Rattle.grammar.specs.Grammar.{literals}
use Rattle.grammar.specs.Derives.{OneOf, Is, IsFile}

-- the refused token is of one of these kinds, and P of it
pub data Next (ks : List token.Kind) (P : Token → Type 0) : (left : List Token) → Type 0 where
  stands : {t : Token} {ts : List Token} → OneOf ks t → P t → Next ks P (t ∷ ts)

-- the token before it is of this kind
pub data Behind (k : token.Kind) : (front : List Token) → Type 0 where
  last : (us : List Token) (t : Token) → Is k t → Behind k (us ++ (t ∷ []))

-- no file begins with these tokens and the refused one; at the end of source: these tokens are no file
abbrev pub Unaccepted : Checks → (front left : List Token) → Type 0
Unaccepted checks front [] = (ls : List Line) → IsFile checks front ls → ⊥
Unaccepted checks front (t ∷ ts) = (other : List Token) (ls : List Line) → IsFile checks (front ++ (t ∷ other)) ls → ⊥

-- the bit length of a literal
abbrev pub bits_in : Token → ℕ
bits_in l = bit_length l.kind (length l.text)

-- none of 2^0, 2^1 and so on, so many of them
abbrev pub NoPowerOf2 : (below n : ℕ) → Type 0
NoPowerOf2 below n = (k : ℕ) → k < below → n ≡ 2 ^ k → ⊥

-- For each depth there is at least one token, and a line's name and the token behind it.
abbrev pub Event : (jets : List ℕ) → (front left : List Token) → Fault → Type 0
Event jets front left ParseFailed = Unaccepted (checks_of jets) front left
Event jets front left (BadWordLength n) = Behind token.const front × Next literals (λ l. (bits_in l ≡ n) × NoPowerOf2 word_bound n) left
Event jets front left (EntropyInsufficient n) = Behind token.fail front × Next literals (λ l. (bits_in l ≡ n) × (n < 128)) left
Event jets front left (EntropyTooMuch n) = Behind token.fail front × Next literals (λ l. (bits_in l ≡ n) × (512 < n)) left
Event jets front left UnknownJet = Next (token.jet ∷ []) (λ t. Piece (drop 4 t.text) jets → ⊥) left
Event jets front left (Bad2ExpNumber e) = Next (token.power ∷ []) (λ t. (exponent_of t.text ≡ e) × (e ≤ 4294967295) × NoPowerOf2 10 e) left
Event jets front left NumberOutOfRange = Next (token.power ∷ []) (λ t. 4294967295 < exponent_of t.text) left
Event jets front left TooDeep = depth_limit + 2 ≤ length front
