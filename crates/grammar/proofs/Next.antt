-- What a rule that looks at one token does with a token whose kind is known. Assumes nothing.
use mathlib.Core.Bool.{Bool, true, false, ◌||◌}
use mathlib.Core.Path.{◌≡◌, refl, ◌∙◌}
use mathlib.Core.List.{List, [], ◌∷◌}
use mathlib.Core.Option.{none, some}
use borrow.Author.Tests.{eqb-true}
use Rattle.records.specs.TokenKind as token
use Rattle.lex.specs.Tokens.{Token}
use Rattle.literals.specs.Literals.{is_kind}
use Rattle.grammar.specs.Rule.{got, Rule, go_on, ◌>>=◌, one_of, Table, entry, choice, perhaps}
use Rattle.grammar.specs.Derives.{OneOf, Is}

pub kind_of_law : (k : token.Kind) (t : Token) → Is k t → t.kind.0 ≡ token.number k
kind_of_law k t i = eqb-true t.kind.0 (token.number k) (first (is_kind k t.kind) i)
  where
    first : (p : Bool) → p || false ≡ true → p ≡ true
    first true e = refl
    first false e = e

-- some token of a kind
abbrev pub of_kind : token.Kind → Token
of_kind k = record { kind = record { 0 = token.number k }; start = 0; text = [] }

-- its entry in a table, by its kind alone
pub entry_is : {A : Type 0} (table : Table A) (k : token.Kind) (t : Token) → Is k t → entry table t ≡ entry table (of_kind k)
unfolding entry
entry_is [] k t i = refl
entry_is (e ∷ es) k t i = rw (entry_is es k t i, kind_of_law k t i)

pub choice_is : {A B : Type 0} (k : token.Kind) (t : Token) → Is k t → (ts : List Token) (table : Table A) (f : A × Token → Rule B) (a : A) → entry table (of_kind k) ≡ some a → (choice table >>= f) (t ∷ ts) ≡ f (a, t) ts
unfolding go_on choice
choice_is k t i ts table f a e = rw (entry_is table k t i, e)

pub one_of_is : {B : Type 0} (ks : List token.Kind) (f : Token → Rule B) (t : Token) → OneOf ks t → (ts : List Token) → (one_of ks >>= f) (t ∷ ts) ≡ f t ts
unfolding go_on one_of
one_of_is ks f t i ts = rw i

-- the next token, if there is one, has no entry in the table
pub data Without {A : Type 0} (table : Table A) : List Token → Type 0 where
  end : Without table []
  next : {t : Token} {ts : List Token} → entry table t ≡ none → Without table (t ∷ ts)

pub without_kind : {A : Type 0} {table : Table A} (k : token.Kind) {t : Token} {ts : List Token} → Is k t → entry table (of_kind k) ≡ none → Without table (t ∷ ts)
without_kind {A} {table} k {t} i e = next (entry_is table k t i ∙ e)

pub perhaps_none : {A : Type 0} {table : Table A} {ts : List Token} → Without table ts → perhaps table ts ≡ got none ts
unfolding perhaps
perhaps_none end = refl
perhaps_none (next e) = rw e

pub perhaps_some : {A : Type 0} (table : Table A) (k : token.Kind) (t : Token) → Is k t → (a : A) → entry table (of_kind k) ≡ some a → (ts : List Token) → perhaps table (t ∷ ts) ≡ got (some a) ts
unfolding perhaps
perhaps_some table k t i a e ts = rw (entry_is table k t i, e)
