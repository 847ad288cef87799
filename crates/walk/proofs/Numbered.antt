-- Records by their numbers, and nodes each with the nodes before it.
use Prim.Native.Nat.{ℕ, zero, suc, ◌≤◌}
use mathlib.Core.Path.{◌≡◌, refl, sym, subst, ◌∙◌}
use mathlib.Core.List.{List, [], ◌∷◌, ◌++◌, append_assoc, append-nil}
use mathlib.Core.Option.{Option, none, some}
use native.Mathlib.Omega.{arith}
use lib.ListN.{length}
use Rattle.grammar.specs.Places.{Each, numbered}
use Rattle.walk.specs.Walk.{Node}
use Rattle.walk.specs.Trees.{record_no}
use Rattle.walk.proofs.Basics.{length_snoc}

-- ---- records by number

module _ {A : Type 0} where
  pub not_there : (x : A) → ◌≡◌ {A = Option A} none (some x) → ⊥
  not_there x e = let z : ◌≡◌ {A = ℕ} 0 1 = cc in omega arith

  pub same_record : (o : Option A) (x y : A) → o ≡ some x → o ≡ some y → x ≡ y
  same_record o x y e f = cc

  -- a number of a record is one of 1 to how many there are
  pub record_bounds : (xs : List A) (c : ℕ) (x : A) → record_no xs c ≡ some x → (1 ≤ c) × (c ≤ length xs)
  unfolding record_no
  record_bounds xs zero x e = absurd (not_there x e)
  record_bounds [] (suc c) x e = absurd (not_there x e)
  record_bounds (y ∷ xs) (suc zero) x e = (omega arith, omega arith)
  record_bounds (y ∷ xs) (suc (suc c)) x e = let b = record_bounds xs (suc c) x e in (omega arith, omega (arith, b))

  -- and each of these has one
  pub record_at_law : (xs : List A) (c : ℕ) → 1 ≤ c → c ≤ length xs → (x : A) × (record_no xs c ≡ some x)
  unfolding record_no
  record_at_law xs zero a b = absurd (omega arith)
  record_at_law [] (suc c) a b = absurd (omega arith)
  record_at_law (y ∷ xs) (suc zero) a b = (y, refl)
  record_at_law (y ∷ xs) (suc (suc c)) a b = record_at_law xs (suc c) (omega arith) (omega arith)

  -- records behind change no number
  pub record_front : (xs ys : List A) (c : ℕ) (x : A) → record_no xs c ≡ some x → record_no (xs ++ ys) c ≡ some x
  unfolding record_no
  record_front xs ys zero x e = absurd (not_there x e)
  record_front [] ys (suc c) x e = absurd (not_there x e)
  record_front (y ∷ xs) ys (suc zero) x e = e
  record_front (y ∷ xs) ys (suc (suc c)) x e = record_front xs ys (suc c) x e

  pub record_last : (xs : List A) (x : A) → record_no (xs ++ (x ∷ [])) (suc (length xs)) ≡ some x
  unfolding record_no
  record_last [] x = refl
  record_last (y ∷ xs) x = record_last xs x

  -- what holds of each holds of that with a number
  pub record_each : (P : A → Type 0) (xs : List A) (c : ℕ) (x : A) → Each P xs → record_no xs c ≡ some x → P x
  unfolding record_no
  record_each P xs zero x h e = absurd (not_there x e)
  record_each P [] (suc c) x h e = absurd (not_there x e)
  record_each P (y ∷ xs) (suc zero) x h e = let q : y ≡ x = cc in subst (λ (z : A). P z) q h.0
  record_each P (y ∷ xs) (suc (suc c)) x h e = record_each P xs (suc c) x h.1 e

-- ---- each node with the nodes before it

-- Q of each of the nodes and of those before it, of which the first ones are given apart
unfoldable pub EachBehind : (Q : List Node → Node → Type 0) → (before : List Node) → List Node → Type 0
EachBehind Q b [] = Unit {0}
EachBehind Q b (x ∷ xs) = Q b x × EachBehind Q (b ++ (x ∷ [])) xs

module _ (Q : List Node → Node → Type 0) where
  pub behind_none : (b : List Node) → EachBehind Q b []
  unfolding EachBehind
  behind_none b = tt

  pub behind_snoc : (b xs : List Node) (x : Node) → EachBehind Q b xs → Q (b ++ xs) x → EachBehind Q b (xs ++ (x ∷ []))
  unfolding EachBehind
  behind_snoc b [] x e q = (subst (λ (l : List Node). Q l x) (append-nil b) q, tt)
  behind_snoc b (y ∷ ys) x e q = (e.0, behind_snoc (b ++ (y ∷ [])) ys x e.1 (subst (λ (l : List Node). Q l x) (sym (append_assoc b (y ∷ []) ys)) q))

  -- a property that follows from Q
  pub behind_each : (P : Node → Type 0) (b xs : List Node)
      → ((before after : List Node) (x : Node) → b ++ xs ≡ before ++ (x ∷ after) → Q before x → P x) → EachBehind Q b xs → Each P xs
  unfolding EachBehind
  behind_each P b [] f e = tt
  behind_each P b (x ∷ xs) f e =
      (f b xs x refl e.0, behind_each P (b ++ (x ∷ [])) xs (λ before after y q. f before after y (sym (append_assoc b (x ∷ []) xs) ∙ q)) e.1)

  -- and of a node with its number
  pub behind_numbered : (P : ℕ × Node → Type 0) (b xs : List Node)
      → ((before : List Node) (x : Node) → Q before x → P (suc (length before), x)) → EachBehind Q b xs → Each P (numbered (length b) xs)
  unfolding EachBehind numbered
  behind_numbered P b [] f e = tt
  behind_numbered P b (x ∷ xs) f e =
      (f b x e.0, subst (λ (n : ℕ). Each P (numbered n xs)) (length_snoc b x) (behind_numbered P (b ++ (x ∷ [])) xs f e.1))
