-- Two principles for every rule of the grammar, each kept by every way to build a rule. A rule refuses by M if, where it stops,
-- the tokens that it accepted, those that are left and the fault are of M. A rule leaves P if what it gives and the tokens that
-- it leaves are of P. Assumes nothing.
use Rattle.std.specs.Prelude.{if◌then◌else◌, Err, Ok, Result}
use Prim.Native.Nat.{ℕ, zero, suc, ◌≤◌}
use mathlib.Core.Bool.{Bool, true, false}
use mathlib.Core.Path.{◌≡◌, refl}
use mathlib.Core.List.{List, [], ◌∷◌, ◌++◌, append_assoc}
use mathlib.Core.Option.{Option, none, some}
use native.Mathlib.Omega.{arith}
use lib.ListN.{length}
use Rattle.records.specs.TokenKind as token
use Rattle.lex.specs.Tokens.{Token}
use Rattle.checks.specs.declared.Fault.{Fault}
use Rattle.checks.specs.declared.Fault.TheVariants.{ParseFailed}
use Rattle.grammar.specs.Rule.{Parsed, got, stop, Rule, go_on, ◌>>=◌, ◌>>◌, give, is_of, one_of, Table, entry, chosen, choice, taken, perhaps, again, repeat_for, repeat}
use Rattle.grammar.specs.Grammar.{passed}
use Rattle.grammar.specs.Derives.{OneOf, Is}
use Rattle.grammar.proofs.Repeat.{Steps}
use Rattle.grammar.proofs.Obeys.{Obeys, obeys_took, Each, entry_each}
use Rattle.refusals.specs.Refuses.{NotNext, end, other, RefusedAt}
use Rattle.refusals.proofs.Next.{kinds_in, no_entry}

-- ---- what is left

pub data Leaving {A : Type 0} (P : A → List Token → Type 0) : Parsed A → Type 0 where
  leaves : {a : A} {rest : List Token} → P a rest → Leaving P (got a rest)
  stopped : {x : Fault} {left : List Token} → Leaving P (stop x left)

abbrev pub Leaves : {A : Type 0} → Rule A → (A → List Token → Type 0) → Type 0
Leaves p P = (ts : List Token) → Leaving P (p ts)

left_so : {A : Type 0} {P : A → List Token → Type 0} {a : A} {rest : List Token} → Leaving P (got a rest) → P a rest
left_so (leaves p) = p

-- of one rule after the other the second decides
pub leaves_then : {A B : Type 0} {p : Rule A} {f : A → Rule B} {Q : A → List Token → Type 0} {P : B → List Token → Type 0} → Leaves p Q → ((a : A) (us : List Token) → Q a us → Leaving P (f a us)) → Leaves (p >>= f) P
unfolding go_on
leaves_then {A} {B} {p} {f} {Q} {P} l h ts = go (l ts)
  where
    go : {q : Parsed A} → Leaving Q q → Leaving P (go_on q f)
    go (leaves {a} {rest} k) = h a rest k
    go stopped = stopped

-- no matter what
pub leaves_any : {A : Type 0} (p : Rule A) → Leaves p (λ a rest. Unit {0})
leaves_any {A} p ts = go (p ts)
  where
    go : (q : Parsed A) → Leaving (λ a rest. Unit {0}) q
    go (got a rest) = leaves tt
    go (stop x left) = stopped

pub leaves_choice : {A B : Type 0} {P : B → List Token → Type 0} (table : Table A) (f : A × Token → Rule B) → Each (λ k a. (t : Token) → Leaves (f (a, t)) P) table → Leaves (choice table >>= f) P
unfolding go_on choice
leaves_choice table f h [] = stopped
leaves_choice {A} {B} {P} table f h (t ∷ ts) = go (entry table t) refl
  where
    go : (o : Option A) → entry table t ≡ o → Leaving P (go_on (chosen o t ts) f)
    go none i = stopped
    go (some a) i = entry_each (λ (a : A). Leaves (f (a, t)) P) table t h (λ k a j w. w t) a i ts

-- nothing, and then none of these kinds comes next; or something
abbrev pub Unless : {A : Type 0} → List token.Kind → Option A → List Token → Type 0
Unless ks none rest = NotNext ks rest
Unless ks (some a) rest = Unit {0}

pub perhaps_leaves : {A : Type 0} (table : Table A) → Leaves (perhaps table) (Unless (kinds_in table))
unfolding perhaps
perhaps_leaves table [] = leaves end
perhaps_leaves {A} table (t ∷ ts) = go (entry table t) refl
  where
    go : (q : Option A) → entry table t ≡ q → Leaving (Unless (kinds_in table)) (taken q t ts)
    go none i = leaves (other (no_entry table t i))
    go (some a) i = leaves tt

-- a repetition ends where the step gives nothing
module _ {A : Type 0} (step : A → Rule (Option A)) (s : Steps step) (ks : List token.Kind) (l : (a : A) → Leaves (step a) (Unless ks)) where
  leaves_for : (f : ℕ) (a : A) (ts : List Token) → length ts ≤ f → Leaving (λ b rest. NotNext ks rest) (repeat_for f step a ts)
  unfolding repeat_for go_on
  leaves_for zero a [] h = leaves end
  leaves_for zero a (t ∷ ts) h = absurd (omega arith)
  leaves_for (suc f) a ts h = go (step a ts) refl (l a ts) (λ b us m. leaves_for f b us m)
    where
      go : (q : Parsed (Option A)) → step a ts ≡ q → Leaving (Unless ks) q → ((b : A) (us : List Token) → length us ≤ f → Leaving (λ b rest. NotNext ks rest) (repeat_for f step b us)) → Leaving (λ b rest. NotNext ks rest) (go_on q (again (repeat_for f step) a))
      go (got none us) k (leaves n) i = leaves n
      go (got (some b) us) k n i = i b us (omega (arith, s.takes a b ts us k))
      go (stop x us) k n i = stopped

  pub leaves_repeat : (a : A) → Leaves (repeat step a) (λ b rest. NotNext ks rest)
  unfolding repeat
  leaves_repeat a ts = leaves_for (length ts) a ts (omega arith)

-- ---- what is refused

pub data Refusing {A : Type 0} (M : List Token → List Token → Fault → Type 0) : List Token → Parsed A → Type 0 where
  fine : {ts left : List Token} {a : A} → Refusing M ts (got a left)
  stops : (front : List Token) {left : List Token} {x : Fault} → M front left x → Refusing M (front ++ left) (stop x left)

abbrev pub Refuses : {A : Type 0} → Rule A → (List Token → List Token → Fault → Type 0) → Type 0
Refuses p M = (ts : List Token) → Refusing M ts (p ts)

pub refused_by : {A : Type 0} {M : List Token → List Token → Fault → Type 0} {p : Rule A} → Refuses p M → (ts left : List Token) (x : Fault) → p ts ≡ stop x left → RefusedAt M ts left x
refused_by {A} {M} {p} h ts left x e = go (rw e at (h ts))
  where
    go : {ts : List Token} → Refusing {A = A} M ts (stop x left) → RefusedAt M ts left x
    go (stops front m) = record { front = front; split = refl; rule = m }

-- by a wider M
pub refuses_wide : {A : Type 0} {M N : List Token → List Token → Fault → Type 0} → ((front left : List Token) (x : Fault) → N front left x → M front left x) → {ts : List Token} {r : Parsed A} → Refusing N ts r → Refusing M ts r
refuses_wide w fine = fine
refuses_wide w (stops front {left} {x} n) = stops front (w front left x n)

module _ {A : Type 0} {M : List Token → List Token → Fault → Type 0} where
  -- where us was accepted before
  pub behind : (us : List Token) {ts : List Token} {r : Parsed A} → Refusing (λ vs. M (us ++ vs)) ts r → Refusing M (us ++ ts) r
  behind us fine = fine
  behind us (stops front {left} m) = rw (← append_assoc us front left) (stops (us ++ front) m)

  pub behind_at : (us ts vs : List Token) {r : Parsed A} → vs ≡ us ++ ts → Refusing (λ vs. M (us ++ vs)) ts r → Refusing M vs r
  behind_at us ts vs e h = rw e (behind us h)

  -- a test of the token that was taken last
  pub refuses_passed : (a : A) (t : Token) (v : Result (Unit {0}) Fault) (ts : List Token) → ((x : Fault) → v ≡ Err x → M [] (t ∷ ts) x) → Refusing M (t ∷ ts) ((passed t v >> give a) ts)
  unfolding go_on
  refuses_passed a t (Ok _) ts h = fine
  refuses_passed a t (Err x) ts h = stops [] (h x refl)

-- one rule after the other, by what the first answers
refuses_on : {A B : Type 0} {M N : List Token → List Token → Fault → Type 0} {f : A → Rule B} → ((front left : List Token) (x : Fault) → N front left x → M front left x) → {ts : List Token} {r : Parsed A} → ((a : A) (rest : List Token) → r ≡ got a rest → Refusing M ts (f a rest)) → Refusing N ts r → Refusing M ts (go_on r f)
unfolding go_on
refuses_on w h (fine {left} {a}) = h a left refl
refuses_on w h (stops front {left} {x} n) = stops front (w front left x n)

-- a rule whose answer is only changed
pub refuses_map : {A B : Type 0} {M N : List Token → List Token → Fault → Type 0} (f : A → B) → ((front left : List Token) (x : Fault) → N front left x → M front left x) → {ts : List Token} {r : Parsed A} → Refusing N ts r → Refusing M ts (go_on r (λ a. give (f a)))
refuses_map f w n = refuses_on w (λ a rest e. fine) n

-- what the first accepts and gives is of G, what it leaves of Q
pub refuses_then : {A B : Type 0} {M N : List Token → List Token → Fault → Type 0} {p : Rule A} {G : A → List Token → Type 0} {Q : A → List Token → Type 0} {f : A → Rule B} → Obeys p G → Leaves p Q → Refuses p N → ((front left : List Token) (x : Fault) → N front left x → M front left x) → ((a : A) (us rest : List Token) → G a us → Q a rest → Refusing (λ vs. M (us ++ vs)) rest (f a rest)) → Refuses (p >>= f) M
refuses_then o l r w h ts =
    refuses_on w
    (λ a rest e.
    let t = obeys_took o ts rest a e in
    behind_at t.used rest ts t.split (h a t.used rest t.of (left_so (rw e at (l ts)))))
    (r ts)

-- ---- one token

module _ {B : Type 0} {M : List Token → List Token → Fault → Type 0} where
  pub refuses_one_of : (ks : List token.Kind) {f : Token → Rule B} (ts : List Token) → (NotNext ks ts → M [] ts ParseFailed) → ((t : Token) (us : List Token) → OneOf ks t → Refusing M (t ∷ us) (f t us)) → Refusing M ts ((one_of ks >>= f) ts)
  unfolding go_on one_of
  refuses_one_of ks [] n h = stops [] (n end)
  refuses_one_of ks {f} (t ∷ ts) n h = go (is_of t ks) refl
    where
      go : (b : Bool) → is_of t ks ≡ b → Refusing M (t ∷ ts) (go_on (if b then got t ts else stop ParseFailed (t ∷ ts)) f)
      go true i = h t ts i
      go false i = stops [] (n (other i))

  pub refuses_choice : {A : Type 0} (table : Table A) (f : A × Token → Rule B) (ts : List Token) → (NotNext (kinds_in table) ts → M [] ts ParseFailed) → Each (λ k a. (t : Token) → Is k t → (us : List Token) → Refusing M (t ∷ us) (f (a, t) us)) table → Refusing M ts ((choice table >>= f) ts)
  unfolding go_on choice
  refuses_choice table f [] n h = stops [] (n end)
  refuses_choice {A} table f (t ∷ ts) n h = go (entry table t) refl
    where
      go : (o : Option A) → entry table t ≡ o → Refusing M (t ∷ ts) (go_on (chosen o t ts) f)
      go none i = stops [] (n (other (no_entry table t i)))
      go (some a) i = entry_each (λ (a : A). Refusing M (t ∷ ts) (f (a, t) ts)) table t h (λ k a j w. w t j ts) a i

  -- a token that is perhaps there
  pub refuses_perhaps : (table : Table B) → Refuses (perhaps table) M
  unfolding perhaps
  refuses_perhaps table [] = fine
  refuses_perhaps table (t ∷ ts) = go (entry table t)
    where
      go : (o : Option B) → Refusing M (t ∷ ts) (taken o t ts)
      go none = fine
      go (some b) = fine

-- ---- repetition, M by what was given so far

module _ {A : Type 0} (M : A → List Token → List Token → Fault → Type 0) (step : A → Rule (Option A)) (now : (a : A) → Refuses (step a) (M a)) (on : (a b : A) (ts rest : List Token) → step a ts ≡ got (some b) rest → (r : Parsed A) → Refusing (M b) rest r → Refusing (M a) ts r) where
  refuses_for : (f : ℕ) (a : A) → Refuses (repeat_for f step a) (M a)
  unfolding repeat_for
  refuses_for zero a ts = fine
  refuses_for (suc f) a ts = refuses_on (λ front left x m. m) (λ o rest e. go o rest e (refuses_for f)) (now a ts)
    where
      go : (o : Option A) (rest : List Token) → step a ts ≡ got o rest → ((b : A) → Refuses (repeat_for f step b) (M b)) → Refusing (M a) ts (again (repeat_for f step) a o rest)
      go none rest e i = fine
      go (some b) rest e i = on a b ts rest e _ (i b rest)

  pub refuses_repeat : (a : A) → Refuses (repeat step a) (M a)
  unfolding repeat
  refuses_repeat a ts = refuses_for (length ts) a ts
