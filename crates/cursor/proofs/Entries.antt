-- A token whose kind is none of a table's has no entry there. Assumes nothing.
use Prim.Native.Nat.{ℕ}
use mathlib.Core.Bool.{Bool, true, false, ◌&&◌, ◌||◌}
use mathlib.Core.Path.{◌≡◌, refl, ◌∙◌}
use mathlib.Core.Logic.{◌⊎◌, inl, inr}
use mathlib.Core.List.{List, [], ◌∷◌}
use mathlib.Core.Option.{none}
use native.Mathlib.Omega.{arith}
use lib.Dec.{eqb}
use borrow.Author.Tests.{eqb-true, ne_eqb}
use Rattle.records.specs.TokenKind as token
use Rattle.records.proofs.Choices.{and_left, and_right, or_cases}
use Rattle.lex.specs.Tokens.{Token}
use Rattle.matches.specs.Code.{NotIn}
use Rattle.checks.specs.declared.Fault.TheVariants.{ParseFailed}
use Rattle.grammar.specs.Rule.{stop, Table, entry, choice}

abbrev among : List ℕ → ℕ → Bool
among [] k = false
among (j ∷ js) k = eqb k j || among js k

-- each kind of the table is one of these numbers
abbrev pub covered : {A : Type 0} → Table A → List ℕ → Bool
covered [] ks = true
covered (e ∷ es) ks = among ks (token.number e.0) && covered es ks

not_among : (ks : List ℕ) (k n : ℕ) → among ks k ≡ true → NotIn ks n → n ≡ k → ⊥
not_among [] k n e h f = let z : ◌≡◌ {A = ℕ} 0 1 = cc in absurd (omega arith)
not_among (j ∷ js) k n e h f = go (or_cases (eqb k j) (among js k) e) (λ x. not_among js k n x h.0 f)
  where
    go : (eqb k j ≡ true) ⊎ (among js k ≡ true) → (among js k ≡ true → ⊥) → ⊥
    go (inl x) again = h.1 (f ∙ eqb-true k j x)
    go (inr x) again = again x

pub entry_none : {A : Type 0} (table : Table A) (ks : List ℕ) (t : Token) → covered table ks ≡ true → NotIn ks t.kind.0 → entry table t ≡ none
unfolding entry
entry_none [] ks t e h = refl
entry_none (x ∷ table) ks t e h =
    let no = ne_eqb t.kind.0 (token.number x.0) (not_among ks (token.number x.0) t.kind.0 (and_left (among ks (token.number x.0)) (covered table ks) e) h) in
    rw no (entry_none table ks t (and_right (among ks (token.number x.0)) (covered table ks) e) h)

-- such a token is not accepted
pub choice_none : {A : Type 0} (table : Table A) (ks : List ℕ) (t : Token) (rest : List Token) → covered table ks ≡ true → NotIn ks t.kind.0 → choice table (t ∷ rest) ≡ stop ParseFailed (t ∷ rest)
unfolding choice
choice_none table ks t rest e h = rw (entry_none table ks t e h)
