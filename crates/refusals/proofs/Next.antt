-- What a rule that looks at one token does where no token of its kinds comes next. Assumes nothing.
use Rattle.std.specs.Prelude.{if◌then◌else◌}
use Prim.Native.Nat.{ℕ}
use mathlib.Core.Bool.{Bool, true, false, ◌||◌}
use mathlib.Core.Path.{◌≡◌, refl}
use mathlib.Core.List.{List, [], ◌∷◌}
use mathlib.Core.Option.{none, some}
use native.Mathlib.Omega.{arith}
use Rattle.records.specs.TokenKind as token
use Rattle.lex.specs.Tokens.{Token}
use Rattle.checks.specs.declared.Fault.TheVariants.{ParseFailed}
use Rattle.literals.specs.Literals.{is_kind}
use Rattle.grammar.specs.Rule.{stop, Rule, go_on, ◌>>=◌, is_of, one_of, Table, entry, choice}
use Rattle.grammar.proofs.Next as without
use Rattle.grammar.proofs.Next.{Without}
use Rattle.refusals.specs.Refuses.{NotNext, end, other}

-- the kinds that have an entry in the table
abbrev pub kinds_in : {A : Type 0} → Table A → List token.Kind
kinds_in [] = []
kinds_in (e ∷ es) = e.0 ∷ kinds_in es

-- of none of several kinds
neither_first : (p q : Bool) → p || q ≡ false → p ≡ false
neither_first true q e = e
neither_first false q e = refl

neither_later : (p q : Bool) → p || q ≡ false → q ≡ false
neither_later true q e = let z : true ≡ false = e in cc
neither_later false q e = e

-- a kind that is not in the table has no entry, and the other way round
pub not_entry : {A : Type 0} (table : Table A) (t : Token) → is_of t (kinds_in table) ≡ false → entry table t ≡ none
unfolding entry
not_entry [] t e = refl
not_entry (c ∷ es) t e = rw (neither_first (is_kind c.0 t.kind) _ e) (not_entry es t (neither_later (is_kind c.0 t.kind) _ e))

pub no_entry : {A : Type 0} (table : Table A) (t : Token) → entry table t ≡ none → is_of t (kinds_in table) ≡ false
unfolding entry
no_entry [] t e = refl
no_entry {A} (c ∷ es) t e = go (is_kind c.0 t.kind) e (no_entry es t)
  where
    go : (b : Bool) → (if b then some c.1 else entry es t) ≡ none → (entry es t ≡ none → is_of t (kinds_in es) ≡ false) → b || is_of t (kinds_in es) ≡ false
    go true e i = let z : ◌≡◌ {A = ℕ} 0 1 = cc in absurd (omega arith)
    go false e i = i e

-- ---- what comes next

pub next_without : {A : Type 0} (table : Table A) {ts : List Token} → NotNext (kinds_in table) ts → Without table ts
next_without table end = without.end
next_without table (other {t} e) = without.next (not_entry table t e)

pub one_of_none : {B : Type 0} (ks : List token.Kind) (f : Token → Rule B) {ts : List Token} → NotNext ks ts → (one_of ks >>= f) ts ≡ stop ParseFailed ts
unfolding go_on one_of
one_of_none ks f end = refl
one_of_none ks f (other e) = rw e

pub choice_none : {A B : Type 0} (table : Table A) (f : A × Token → Rule B) {ts : List Token} → NotNext (kinds_in table) ts → (choice table >>= f) ts ≡ stop ParseFailed ts
unfolding go_on choice
choice_none table f end = refl
choice_none table f (other {t} e) = rw (not_entry table t e)

-- fewer kinds, more kinds
pub first_kind : {k : token.Kind} {ks : List token.Kind} {ts : List Token} → NotNext (k ∷ ks) ts → NotNext (k ∷ []) ts
first_kind end = end
first_kind {k} (other {t} e) = other {t = t} (rw (neither_first (is_kind k t.kind) _ e))

pub later_kinds : {k : token.Kind} {ks : List token.Kind} {ts : List Token} → NotNext (k ∷ ks) ts → NotNext ks ts
later_kinds end = end
later_kinds {k} (other {t} e) = other (neither_later (is_kind k t.kind) _ e)

pub more_kinds : {k : token.Kind} {ks : List token.Kind} {ts : List Token} → NotNext (k ∷ []) ts → NotNext ks ts → NotNext (k ∷ ks) ts
more_kinds end n = end
more_kinds {k} (other {t} e) (other f) = other {t = t} (rw (neither_first (is_kind k t.kind) _ e) f)
