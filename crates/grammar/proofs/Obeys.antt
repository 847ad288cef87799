-- One principle for every rule of the grammar. A rule obeys G if what it takes and what it gives are of G, and if it looks at
-- the tokens that it takes and at one more: with other tokens behind that one it answers the same. Each way to build a rule
-- keeps this. Assumes nothing.
use Rattle.std.specs.Prelude.{if◌then◌else◌}
use Prim.Native.Nat.{ℕ, zero, suc, ◌+◌, ◌<◌}
use mathlib.Core.Bool.{Bool, true, false}
use mathlib.Core.Path.{◌≡◌, refl, ap, ◌∙◌}
use mathlib.Core.List.{List, [], ◌∷◌, ◌++◌, append_assoc, append-nil, append_cancel_right}
use mathlib.Core.Option.{Option, none, some}
use native.Mathlib.Omega.{arith}
use lib.ListN.{length, length-append}
use Rattle.records.specs.TokenKind as token
use Rattle.lex.specs.Tokens.{Token}
use Rattle.checks.specs.declared.Fault.{Fault}
use Rattle.checks.specs.declared.Fault.TheVariants.{ParseFailed}
use Rattle.literals.specs.Literals.{is_kind}
use Rattle.grammar.specs.Rule.{Parsed, got, stop, Rule, go_on, ◌>>=◌, give, refuse, refuse_at, is_of, one_of, Table, entry, chosen, choice, taken, perhaps, again, repeat_for, repeat}
use Rattle.grammar.specs.Derives.{OneOf, Is}
use Rattle.grammar.proofs.Repeat.{Steps, repeat_fuel}

-- both begin with one token, or both are empty
pub data Same : List Token → List Token → Type 0 where
  end : Same [] []
  first : {t : Token} {us vs : List Token} → Same (t ∷ us) (t ∷ vs)

pub same_append : (ts : List Token) {us vs : List Token} → Same us vs → Same (ts ++ us) (ts ++ vs)
same_append [] s = s
same_append (t ∷ ts) s = first

-- two rules that answer the same at the end; that answer the same where t comes next
pub same_end : {A : Type 0} (p q : Rule A) → p [] ≡ q [] → (left : List Token) → Same [] left → p left ≡ q left
same_end p q e [] s = e
same_end {A = A} p q e (_ ∷ _) s = elim s [ ]

pub same_first : {A : Type 0} (p q : Rule A) (t : Token) {ts : List Token} → ((left : List Token) → p (t ∷ left) ≡ q (t ∷ left)) → (left : List Token) → Same (t ∷ ts) left → p left ≡ q left
same_first p q t e (u ∷ left) first = e left
same_first {A = A} p q t {ts = ts} e [] x' = elim x' [ ]

-- ---- what a rule answers

pub data Obeying {A : Type 0} (p : Rule A) (G : A → List Token → Type 0) : List Token → Parsed A → Type 0 where
  gets : (used : List Token) {rest : List Token} {a : A} → G a used → ((left : List Token) → Same rest left → p (used ++ left) ≡ got a left) → Obeying p G (used ++ rest) (got a rest)
  stops : (used : List Token) {rest : List Token} {x : Fault} → ((left : List Token) → Same rest left → p (used ++ left) ≡ stop x left) → Obeying p G (used ++ rest) (stop x rest)

abbrev pub Obeys : {A : Type 0} → Rule A → (A → List Token → Type 0) → Type 0
Obeys p G = (ts : List Token) → Obeying p G ts (p ts)

-- a rule that follows the token t and may put it back
pub data Behind {A : Type 0} (t : Token) (p : Rule A) (G : A → List Token → Type 0) : List Token → Parsed A → Type 0 where
  goes : {ts : List Token} {r : Parsed A} → Obeying p (λ a us. G a (t ∷ us)) ts r → Behind t p G ts r
  back : {ts : List Token} {x : Fault} → ((left : List Token) → p left ≡ stop x (t ∷ left)) → Behind t p G ts (stop x (t ∷ ts))

abbrev pub After : {A : Type 0} → Token → Rule A → (A → List Token → Type 0) → Type 0
After t p G = (ts : List Token) → Behind t p G ts (p ts)

module _ {A : Type 0} {G : A → List Token → Type 0} where
  pub obeys_give : (a : A) → G a [] → Obeys (give a) G
  obeys_give a g ts = gets [] g (λ left s. refl)

  pub obeys_refuse : (x : Fault) → Obeys (refuse {A = A} x) G
  obeys_refuse x ts = stops [] (λ left s. refl)

  pub obeys_back : (t : Token) (x : Fault) → After t (refuse_at {A = A} t x) G
  obeys_back t x ts = back (λ left. refl)

  pub obeys_after : {t : Token} {p : Rule A} → Obeys p (λ a us. G a (t ∷ us)) → After t p G
  obeys_after h ts = goes (h ts)

-- a wider G
pub obeys_wide : {A : Type 0} {p : Rule A} {G H : A → List Token → Type 0} → ((a : A) (us : List Token) → G a us → H a us) → Obeys p G → Obeys p H
obeys_wide {A} {p} {G} {H} w h ts = go (h ts)
  where
    go : {ts : List Token} {r : Parsed A} → Obeying p G ts r → Obeying p H ts r
    go (gets used {rest} {a} g l) = gets used (w a used g) l
    go (stops used l) = stops used l

-- another rule that answers the same where a token is left
pub obeying_front : {A : Type 0} {p q : Rule A} {G : A → List Token → Type 0} {t : Token} {ts : List Token} {r : Parsed A} → ((u : Token) (us : List Token) → q (u ∷ us) ≡ p (u ∷ us)) → Obeying p G (t ∷ ts) r → Obeying q G (t ∷ ts) r
obeying_front {A} {p} {q} {G} {t} {ts} e o = go (t ∷ ts) (omega arith) o
  where
    some : (used rest left : List Token) → 0 < length (used ++ rest) → Same rest left → q (used ++ left) ≡ p (used ++ left)
    some [] [] left h s = absurd (omega arith)
    some [] (u ∷ rest) left h s = same_first q p u (e u) left s
    some (u ∷ used) rest left h s = e u (used ++ left)

    go : (ts : List Token) {r : Parsed A} → 0 < length ts → Obeying p G ts r → Obeying q G ts r
    go ts h (gets used {rest} g l) = gets used g (λ left s. some used rest left h s ∙ l left s)
    go ts h (stops used {rest} l) = stops used (λ left s. some used rest left h s ∙ l left s)

-- one rule after the other
module _ {A B : Type 0} {p : Rule A} {G : A → List Token → Type 0} {H : B → List Token → Type 0} where
  pub obeys_then : {f : A → Rule B} → Obeys p G → ((a : A) (us : List Token) → G a us → Obeys (f a) (λ b vs. H b (us ++ vs))) → Obeys (p >>= f) H
  unfolding go_on
  obeys_then {f} hp hf ts = go (hp ts)
    where
      -- where the first has taken us, the second goes on
      on : (us : List Token) (a : A) {ts : List Token} (vs left : List Token) → ((left : List Token) → Same ts left → p (us ++ left) ≡ got a left) → Same ts (vs ++ left) → (p >>= f) ((us ++ vs) ++ left) ≡ f a (vs ++ left)
      on us a vs left l s = rw (append_assoc us vs left, l (vs ++ left) s)

      second : (us : List Token) (a : A) {ts : List Token} → ((left : List Token) → Same ts left → p (us ++ left) ≡ got a left) → {r : Parsed B} → Obeying (f a) (λ b vs. H b (us ++ vs)) ts r → Obeying (p >>= f) H (us ++ ts) r
      second us a l (gets vs {rest} h m) = rw (← append_assoc us vs rest) (gets (us ++ vs) h (λ left s. on us a vs left l (same_append vs s) ∙ m left s))
      second us a l (stops vs {rest} m) = rw (← append_assoc us vs rest) (stops (us ++ vs) (λ left s. on us a vs left l (same_append vs s) ∙ m left s))

      go : {ts : List Token} {r : Parsed A} → Obeying p G ts r → Obeying (p >>= f) H ts (go_on r f)
      go (gets used {rest} {a} g l) = second used a l (hf a used g rest)
      go (stops used l) = stops used (λ left s. ap (λ (r : Parsed A). go_on r f) (l left s))

  -- a rule whose answer is only changed
  pub obeys_map : (g : A → B) → Obeys p G → ((a : A) (us : List Token) → G a us → H (g a) us) → Obeys (p >>= λ a. give (g a)) H
  obeys_map g hp w = obeys_then hp (λ a us k. obeys_give (g a) (rw append-nil (w a us k)))

-- ---- one token

is_kind_law : (k : token.Kind) (t : Token) → is_kind k t.kind ≡ true → Is k t
is_kind_law k t e = rw e

module _ {B : Type 0} {H : B → List Token → Type 0} where
  -- a token that is taken, and what follows it
  behind : {p q : Rule B} {t : Token} {ts : List Token} {r : Parsed B} → ((left : List Token) → p (t ∷ left) ≡ q left) → Behind t q H ts r → Obeying p H (t ∷ ts) r
  behind {p} {q} {t} e (goes (gets used g l)) = gets (t ∷ used) g (λ left s. e (used ++ left) ∙ l left s)
  behind {p} {q} {t} e (goes (stops used l)) = stops (t ∷ used) (λ left s. e (used ++ left) ∙ l left s)
  behind {p} {q} {t} e (back l) = stops [] (same_first _ _ t (λ left. e left ∙ l left))

  pub obeys_one_of : (ks : List token.Kind) {f : Token → Rule B} → ((t : Token) → OneOf ks t → After t (f t) H) → Obeys (one_of ks >>= f) H
  unfolding go_on one_of
  obeys_one_of ks h [] = stops [] (same_end _ _ refl)
  obeys_one_of ks {f} h (t ∷ ts) = go (is_of t ks) refl
    where
      go : (b : Bool) → is_of t ks ≡ b → Obeying (one_of ks >>= f) H (t ∷ ts) (go_on (if b then got t ts else stop ParseFailed (t ∷ ts)) f)
      go true e = behind (λ left. rw e) (h t e ts)
      go false e = stops [] (same_first _ (refuse ParseFailed) t (λ left. rw e))

-- ---- one token by a table

-- P of each entry
infixr 5 ◌▹◌
pub data Each {A : Type 0} (P : token.Kind → A → Type 0) : Table A → Type 0 where
  all : Each P []
  ◌▹◌ : {e : token.Kind × A} {es : Table A} → P e.0 e.1 → Each P es → Each P (e ∷ es)

-- an entry that a token has is of the token's kind
pub entry_each : {A : Type 0} {P : token.Kind → A → Type 0} (Q : A → Type 0) (table : Table A) (t : Token) → Each P table → ((k : token.Kind) (a : A) → Is k t → P k a → Q a) → (a : A) → entry table t ≡ some a → Q a
unfolding entry
entry_each Q [] t all w a e = let z : ◌≡◌ {A = ℕ} 0 1 = cc in absurd (omega arith)
entry_each {A} {P} Q (c ∷ es) t (p ▹ h) w a e = go (is_kind c.0 t.kind) refl (entry_each Q es t h w a) e
  where
    go : (b : Bool) → is_kind c.0 t.kind ≡ b → (entry es t ≡ some a → Q a) → (if b then some c.1 else entry es t) ≡ some a → Q a
    go true k i e = let z : c.1 ≡ a = cc in rw z at (w c.0 c.1 (is_kind_law c.0 t k) p)
    go false k i e = i e

pub obeys_choice : {A B : Type 0} {H : B → List Token → Type 0} (table : Table A) (f : A × Token → Rule B) → Each (λ k a. (t : Token) → Is k t → After t (f (a, t)) H) table → Obeys (choice table >>= f) H
unfolding go_on choice
obeys_choice table f h [] = stops [] (same_end _ _ refl)
obeys_choice {A} {B} {H} table f h (t ∷ ts) = go (entry table t) refl
  where
    go : (o : Option A) → entry table t ≡ o → Obeying (choice table >>= f) H (t ∷ ts) (go_on (chosen o t ts) f)
    go none e = stops [] (same_first _ (refuse ParseFailed) t (λ left. rw e))
    go (some a) e =
        behind (λ left. rw e)
        (entry_each (λ (a : A). After t (f (a, t)) H) table t h (λ k a i w. w t i) a e ts)

-- no token, or one and its entry
pub data Perhaps {A : Type 0} (P : A → Token → Type 0) : Option A → List Token → Type 0 where
  no : Perhaps P none []
  yes : {a : A} {t : Token} → P a t → Perhaps P (some a) (t ∷ [])

pub obeys_perhaps : {A : Type 0} {P : A → Token → Type 0} (table : Table A) → Each (λ k a. (t : Token) → Is k t → P a t) table → Obeys (perhaps table) (Perhaps P)
unfolding perhaps
obeys_perhaps table h [] = gets [] no (same_end _ _ refl)
obeys_perhaps {A} {P} table h (t ∷ ts) = go (entry table t) refl
  where
    go : (o : Option A) → entry table t ≡ o → Obeying (perhaps table) (Perhaps P) (t ∷ ts) (taken o t ts)
    go none e = gets [] no (same_first _ _ t (λ left. rw e))
    go (some a) e = gets (t ∷ []) (yes (entry_each (λ (a : A). P a t) table t h (λ k a i w. w t i) a e)) (λ left s. rw e)

-- ---- what follows of it

-- an answer, with other tokens left
abbrev pub leaving : {A : Type 0} → Parsed A → List Token → Parsed A
leaving (got a us) ts = got a ts
leaving (stop x us) ts = stop x ts

-- some tokens were taken of ts
pub record Split (ts rest : List Token) : Type 0 where
  pub used : List Token
  pub split : ts ≡ used ++ rest

-- the same, and they are of G
pub record Taken {A : Type 0} (G : A → List Token → Type 0) (a : A) (ts rest : List Token) : Type 0 where
  pub used : List Token
  pub split : ts ≡ used ++ rest
  pub of : G a used

module _ {A : Type 0} {p : Rule A} {G : A → List Token → Type 0} (h : Obeys p G) where
  pub obeys_took : (ts rest : List Token) (a : A) → p ts ≡ got a rest → Taken G a ts rest
  obeys_took ts rest a e = go (rw e at (h ts))
    where
      go : {ts : List Token} → Obeying p G ts (got a rest) → Taken G a ts rest
      go (gets used g l) = record { used = used; split = refl; of = g }

  pub obeys_split : (ts rest : List Token) (x : Fault) → p ts ≡ stop x rest → Split ts rest
  obeys_split ts rest x e = go (rw e at (h ts))
    where
      go : {ts : List Token} → Obeying p G ts (stop x rest) → Split ts rest
      go (stops used l) = record { used = used; split = refl }

  -- with other tokens behind the next one
  pub obeys_local : (used rest left : List Token) (r : Parsed A) → p (used ++ rest) ≡ leaving r rest → Same rest left → p (used ++ left) ≡ leaving r left
  obeys_local used rest left r e s = go (used ++ rest) r (rw e at (h (used ++ rest))) refl
    where
      go : (ts : List Token) (r : Parsed A) → Obeying p G ts (leaving r rest) → used ++ rest ≡ ts → p (used ++ left) ≡ leaving r left
      go ts (got a us) (gets vs g l) e = rw (append_cancel_right used vs rest e) (l left s)
      go ts (stop x us) (stops vs l) e = rw (append_cancel_right used vs rest e) (l left s)

-- ---- repetition

-- what a step gives from a: nothing, or b for one token or more; J of a and the tokens so far goes over to b
pub data Stepped {A : Type 0} (J : A → List Token → Type 0) (a : A) : Option A → List Token → Type 0 where
  done : Stepped J a none []
  more : {b : A} {t : Token} {vs : List Token} → ((us : List Token) → J a us → J b (us ++ (t ∷ vs))) → Stepped J a (some b) (t ∷ vs)

module _ {A : Type 0} (J : A → List Token → Type 0) (step : A → Rule (Option A)) (ends : (a : A) → step a [] ≡ got none []) (h : (a : A) → Obeys (step a) (Stepped J a)) where
  pub obeys_steps : Steps step
  obeys_steps = record { ends = ends; takes = takes }
    where
      shorter : {a b : A} (ts used rest : List Token) → Stepped J a (some b) used → ts ≡ used ++ rest → length rest < length ts
      shorter ts used rest (more w) e = omega (arith, simp length-append at (ap length e))

      takes : (a b : A) (ts rest : List Token) → step a ts ≡ got (some b) rest → length rest < length ts
      takes a b ts rest e = let k = obeys_took (h a) ts rest (some b) e in shorter ts k.used rest k.of k.split

  repeat_for_law : (f : ℕ) (a : A) (us : List Token) → J a us → Obeys (repeat_for f step a) (λ b vs. J b (us ++ vs))
  unfolding repeat_for
  repeat_for_law zero a us j = obeys_give a (rw append-nil j)
  repeat_for_law (suc f) a us j = obeys_then (h a) (λ o vs s. go o vs s (repeat_for_law f))
    where
      go : (o : Option A) (vs : List Token) → Stepped J a o vs → ((b : A) (us : List Token) → J b us → Obeys (repeat_for f step b) (λ c vs. J c (us ++ vs))) → Obeys (again (repeat_for f step) a o) (λ b ws. J b (us ++ (vs ++ ws)))
      go o vs done i = obeys_give a (rw append-nil j)
      go o vs (more {b} w) i = obeys_wide (λ c ws k. rw append_assoc at k) (i b (us ++ vs) (w us j))

  pub obeys_repeat : (a : A) (us : List Token) → J a us → Obeys (repeat step a) (λ b vs. J b (us ++ vs))
  unfolding repeat
  obeys_repeat a us j ts = go (repeat_for_law (length ts) a us j ts) refl
    where
      -- by a bound that is enough for both
      same : (used rest left : List Token) (r : Parsed A) → repeat step a (used ++ rest) ≡ leaving r rest → Same rest left → repeat step a (used ++ left) ≡ leaving r left
      same used rest left r e s =
          let m = length (used ++ rest) in
          let n = length (used ++ left) in
          let fuel = repeat_fuel step obeys_steps in
          fuel n (m + n) a (used ++ left) (omega arith) (omega arith)
          ∙ obeys_local (repeat_for_law (m + n) a us j) used rest left r (fuel (m + n) m a (used ++ rest) (omega arith) (omega arith) ∙ e) s

      go : {ts : List Token} {r : Parsed A} → Obeying (repeat_for (length ts) step a) (λ b vs. J b (us ++ vs)) ts r → repeat step a ts ≡ r → Obeying (repeat step a) (λ b vs. J b (us ++ vs)) ts r
      go (gets used {rest} {a = b} g l) e = gets used g (λ left s. same used rest left (got b rest) e s)
      go (stops used {rest} {x} l) e = stops used (λ left s. same used rest left (stop x rest) e s)
