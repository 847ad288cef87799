-- Repetition, one step at a time, and that its bound does not matter: any bound not less than the number of tokens left gives
-- the same answer, if the step takes a token whenever it gives something new. Assumes nothing.
use Prim.Native.Nat.{ℕ, zero, suc, ◌≤◌, ◌<◌}
use mathlib.Core.Path.{◌≡◌, refl, sym, ◌∙◌}
use mathlib.Core.List.{List, [], ◌∷◌}
use mathlib.Core.Option.{Option, none, some}
use native.Mathlib.Omega.{arith}
use lib.ListN.{length}
use Rattle.lex.specs.Tokens.{Token}
use Rattle.checks.specs.declared.Fault.{Fault}
use Rattle.grammar.specs.Rule.{Parsed, got, stop, Rule, go_on, repeat_for, repeat}

-- ---- one step, by what it answers

module _ {A : Type 0} (step : A → Rule (Option A)) (f : ℕ) {a : A} {ts rest : List Token} where
  pub repeat_more : {b : A} → step a ts ≡ got (some b) rest → repeat_for (suc f) step a ts ≡ repeat_for f step b rest
  unfolding repeat_for go_on
  repeat_more e = rw e

  pub repeat_done : step a ts ≡ got none rest → repeat_for (suc f) step a ts ≡ got a rest
  unfolding repeat_for go_on
  repeat_done e = rw e

  pub repeat_stop : {x : Fault} → step a ts ≡ stop x rest → repeat_for (suc f) step a ts ≡ stop x rest
  unfolding repeat_for go_on
  repeat_stop e = rw e

-- ---- the bound

-- the step takes a token whenever it gives something new, and gives nothing where no token is left
pub record Steps {A : Type 0} (step : A → Rule (Option A)) : Type 0 where
  pub ends : (a : A) → step a [] ≡ got none []
  pub takes : (a b : A) (ts rest : List Token) → step a ts ≡ got (some b) rest → length rest < length ts

module _ {A : Type 0} (step : A → Rule (Option A)) (s : Steps step) where
  repeat_empty : (f : ℕ) (a : A) → repeat_for f step a [] ≡ got a []
  unfolding repeat_for
  repeat_empty zero a = refl
  repeat_empty (suc f) a = repeat_done step f (s.ends a)

  pub repeat_fuel : (f g : ℕ) (a : A) (ts : List Token) → length ts ≤ f → length ts ≤ g → repeat_for f step a ts ≡ repeat_for g step a ts
  repeat_fuel zero g a [] h k = repeat_empty zero a ∙ sym (repeat_empty g a)
  repeat_fuel zero g a (t ∷ ts) h k = absurd (omega arith)
  repeat_fuel (suc f) g a [] h k = repeat_empty (suc f) a ∙ sym (repeat_empty g a)
  repeat_fuel (suc f) zero a (t ∷ ts) h k = absurd (omega arith)
  repeat_fuel (suc f) (suc g) a (t ∷ ts) h k = go (step a (t ∷ ts)) refl (λ b rest l m. repeat_fuel f g b rest l m)
    where
      go : (r : Parsed (Option A)) → step a (t ∷ ts) ≡ r → ((b : A) (rest : List Token) → length rest ≤ f → length rest ≤ g → repeat_for f step b rest ≡ repeat_for g step b rest) → repeat_for (suc f) step a (t ∷ ts) ≡ repeat_for (suc g) step a (t ∷ ts)
      go (got none rest) e i = repeat_done step f e ∙ sym (repeat_done step g e)
      go (got (some b) rest) e i =
          let l = s.takes a b (t ∷ ts) rest e in
          repeat_more step f e ∙ i b rest (omega arith) (omega arith) ∙ sym (repeat_more step g e)
      go (stop x rest) e i = repeat_stop step f e ∙ sym (repeat_stop step g e)

  -- the repetition itself, one step at a time
  module _ (a : A) (ts rest : List Token) where
    longer : repeat step a ts ≡ repeat_for (suc (length ts)) step a ts
    unfolding repeat
    longer = repeat_fuel (length ts) (suc (length ts)) a ts (omega arith) (omega arith)

    pub repeat_on : (b : A) → step a ts ≡ got (some b) rest → repeat step a ts ≡ repeat step b rest
    unfolding repeat
    repeat_on b e = longer ∙ repeat_more step (length ts) e ∙ repeat_fuel (length ts) (length rest) b rest (omega (arith, s.takes a b ts rest e)) (omega arith)

    pub repeat_off : step a ts ≡ got none rest → repeat step a ts ≡ got a rest
    repeat_off e = longer ∙ repeat_done step (length ts) e

  -- a step that is done only where no token is left
  module _ (last : (a : A) (ts rest : List Token) → step a ts ≡ got none rest → rest ≡ []) (b : A) (rest : List Token) where
    ends_for : (f : ℕ) (a : A) (ts : List Token) → length ts ≤ f → repeat_for f step a ts ≡ got b rest → rest ≡ []
    unfolding repeat_for
    ends_for zero a [] h e = cc
    ends_for zero a (t ∷ ts) h e = absurd (omega arith)
    ends_for (suc f) a ts h e = go (step a ts) refl (λ c us l k. ends_for f c us l k)
      where
        go : (r : Parsed (Option A)) → step a ts ≡ r → ((c : A) (us : List Token) → length us ≤ f → repeat_for f step c us ≡ got b rest → rest ≡ []) → rest ≡ []
        go (got none us) k i = let z = last a ts us k in let y = sym (repeat_done step f k) ∙ e in cc
        go (got (some c) us) k i = i c us (omega (arith, s.takes a c ts us k)) (sym (repeat_more step f k) ∙ e)
        go (stop x us) k i = let y = sym (repeat_stop step f k) ∙ e in let z : ◌≡◌ {A = ℕ} 0 1 = cc in absurd (omega arith)

    pub repeat_ends : (a : A) (ts : List Token) → repeat step a ts ≡ got b rest → rest ≡ []
    unfolding repeat
    repeat_ends a ts e = ends_for (length ts) a ts (omega arith) e
