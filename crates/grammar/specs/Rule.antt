-- What a rule of the grammar is and how rules follow each other.
use Rattle.std.specs.Prelude.{ℕ, zero, suc, Bool, false, ◌||◌, List, [], ◌∷◌, length, if◌then◌else◌}
use Rattle.std.proofs.Math.Option.{Option, none, some}
use Rattle.records.specs.TokenKind as token
use Rattle.lex.specs.Tokens.{Token}
use Rattle.checks.specs.declared.Fault.{Fault}
use Rattle.checks.specs.declared.Fault.TheVariants.{ParseFailed}
use Rattle.literals.specs.Literals.{is_kind}

-- What a rule answers: a value and the tokens that are left; or a fault and the tokens that are left, the first of which is
-- refused (none left: end of source is).
pub data Parsed (A : Type 0) : Type 0 where
  got : A → (left : List Token) → Parsed A
  stop : Fault → (left : List Token) → Parsed A

-- a rule takes the tokens that are left
abbrev pub Rule : Type 0 → Type 0
Rule A = List Token → Parsed A

-- ---- a `do` block: one rule after the other, until one refuses

unfoldable pub go_on : {A B : Type 0} → Parsed A → (A → Rule B) → Parsed B
go_on (got a ts) f = f a ts
go_on (stop x ts) f = stop x ts

infixl 20 ◌>>=◌ ◌>>◌
abbrev pub ◌>>=◌ : {A B : Type 0} → Rule A → (A → Rule B) → Rule B
◌>>=◌ p f ts = go_on (p ts) f

abbrev pub ◌>>◌ : {A B : Type 0} → Rule A → Rule B → Rule B
◌>>◌ p q ts = go_on (p ts) (λ _. q)

-- ---- rules that take no token

abbrev pub give : {A : Type 0} → A → Rule A
give a ts = got a ts

-- a fault at the token that comes next
abbrev pub refuse : {A : Type 0} → Fault → Rule A
refuse x ts = stop x ts

-- a fault at the token t that was taken last
abbrev pub refuse_at : {A : Type 0} → Token → Fault → Rule A
refuse_at t x ts = stop x (t ∷ ts)

-- ---- one token

abbrev pub is_of : Token → List token.Kind → Bool
is_of t [] = false
is_of t (k ∷ ks) = is_kind k t.kind || is_of t ks

-- the next token, which has to be of one of these kinds; refusal 6 if it is not, or if there is none
unfoldable pub one_of : List token.Kind → Rule Token
one_of ks [] = stop ParseFailed []
one_of ks (t ∷ ts) = if is_of t ks then got t ts else stop ParseFailed (t ∷ ts)

abbrev pub expect : token.Kind → Rule Token
expect k = one_of (k ∷ [])

-- entries by the kind of a token
abbrev pub Table : Type 0 → Type 0
Table A = List (token.Kind × A)

-- the entry of a token's kind, if it has one
unfoldable pub entry : {A : Type 0} → Table A → Token → Option A
entry [] t = none
entry (e ∷ es) t = if is_kind e.0 t.kind then some e.1 else entry es t

abbrev pub chosen : {A : Type 0} → Option A → Token → Rule (A × Token)
chosen none t ts = stop ParseFailed (t ∷ ts)
chosen (some a) t ts = got (a, t) ts

-- the next token, which has to have an entry in the table, with that entry
unfoldable pub choice : {A : Type 0} → Table A → Rule (A × Token)
choice table [] = stop ParseFailed []
choice table (t ∷ ts) = chosen (entry table t) t ts

abbrev pub taken : {A : Type 0} → Option A → Token → Rule (Option A)
taken none t ts = got none (t ∷ ts)
taken (some a) t ts = got (some a) ts

-- the next token's entry in the table, if it has one; only then is the token taken
unfoldable pub perhaps : {A : Type 0} → Table A → Rule (Option A)
perhaps table [] = got none []
perhaps table (t ∷ ts) = taken (entry table t) t ts

-- ---- repetition

abbrev pub again : {A : Type 0} → (more : A → Rule A) → A → Option A → Rule A
again more a none = give a
again more a (some b) = more b

-- a step, as long as it gives something new, so many times at most
unfoldable pub repeat_for : {A : Type 0} → ℕ → (A → Rule (Option A)) → A → Rule A
repeat_for zero step a = give a
repeat_for (suc f) step a = do
  x ← step a
  again (repeat_for f step) a x

-- a step, as long as it gives something new; each one takes a token
unfoldable pub repeat : {A : Type 0} → (A → Rule (Option A)) → A → Rule A
repeat step a ts = repeat_for (length ts) step a ts
