-- A list sorted by a rank: it holds the same, and what has a lower rank stands earlier.
use Prim.Native.Nat.{ℕ, ◌≤◌, ◌<◌}
use mathlib.Core.Path.{◌≡◌, refl, ap, subst}
use mathlib.Core.Bool.{Bool, true, false}
use mathlib.Core.Logic.{inl, inr}
use mathlib.Core.List.{List, [], ◌∷◌, ◌++◌}
use native.Mathlib.Omega.{arith}
use lib.Dec.{leb}
use borrow.Author.Tests.{leb-true, leb-false}
use Rattle.names.specs.Uses.{In}

module _ {A : Type 0} (rank : A → ℕ) where
  placed : Bool → (a x : A) → (xs inserted : List A) → List A
  placed true a x xs later = a ∷ x ∷ xs
  placed false a x xs later = x ∷ later

  insert : A → List A → List A
  insert a [] = a ∷ []
  insert a (x ∷ xs) = placed (leb (rank a) (rank x)) a x xs (insert a xs)

  pub sorted : List A → List A
  sorted [] = []
  sorted (x ∷ xs) = insert x (sorted xs)

  Rising : List A → Type 0
  Rising [] = Unit {0}
  Rising (x ∷ xs) = ((y : A) → In y xs → rank x ≤ rank y) × Rising xs

  insert_in : (a : A) (xs : List A) (b : A) → In b (a ∷ xs) → In b (insert a xs)
  unfolding insert placed
  insert_in a [] b h = h
  insert_in a (x ∷ xs) b h = go (leb (rank a) (rank x)) h (insert_in a xs b)
    where
      go : (t : Bool) → In b (a ∷ x ∷ xs) → (In b (a ∷ xs) → In b (insert a xs)) → In b (placed t a x xs (insert a xs))
      go true h ih = h
      go false (inl e) ih = inr (ih (inl e))
      go false (inr (inl e)) ih = inl e
      go false (inr (inr q)) ih = inr (ih (inr q))

  insert_out : (a : A) (xs : List A) (b : A) → In b (insert a xs) → In b (a ∷ xs)
  unfolding insert placed
  insert_out a [] b h = h
  insert_out a (x ∷ xs) b h = go (leb (rank a) (rank x)) h (insert_out a xs b)
    where
      back : In b (a ∷ xs) → In b (a ∷ x ∷ xs)
      back (inl e) = inl e
      back (inr q) = inr (inr q)

      go : (t : Bool) → In b (placed t a x xs (insert a xs)) → (In b (insert a xs) → In b (a ∷ xs)) → In b (a ∷ x ∷ xs)
      go true h ih = h
      go false (inl e) ih = inr (inl e)
      go false (inr q) ih = back (ih q)

  insert_rising : (a : A) (xs : List A) → Rising xs → Rising (insert a xs)
  unfolding insert placed Rising
  insert_rising a [] r = (λ y h. absurd h, tt)
  insert_rising a (x ∷ xs) r = go (leb (rank a) (rank x)) refl (insert_rising a xs r.1)
    where
      above : rank a ≤ rank x → (y : A) → In y (x ∷ xs) → rank a ≤ rank y
      above h y (inl e) = rw (← e) h
      above h y (inr q) = omega (arith, r.0 y q)

      next : rank x < rank a → (y : A) → In y (a ∷ xs) → rank x ≤ rank y
      next h y (inl e) = rw (← e) (omega arith)
      next h y (inr q) = r.0 y q

      go : (t : Bool) → leb (rank a) (rank x) ≡ t → Rising (insert a xs) → Rising (placed t a x xs (insert a xs))
      go true e ih = (above (leb-true (rank a) (rank x) e), r)
      go false e ih = (λ y q. next (leb-false (rank a) (rank x) e) y (insert_out a xs y q), ih)

  pub sorted_in : (xs : List A) (b : A) → In b xs → In b (sorted xs)
  unfolding sorted
  sorted_in [] b h = h
  sorted_in (x ∷ xs) b (inl e) = insert_in x (sorted xs) b (inl e)
  sorted_in (x ∷ xs) b (inr h) = insert_in x (sorted xs) b (inr (sorted_in xs b h))

  pub sorted_out : (xs : List A) (b : A) → In b (sorted xs) → In b xs
  unfolding sorted
  sorted_out [] b h = h
  sorted_out (x ∷ xs) b h = go (insert_out x (sorted xs) b h) (sorted_out xs b)
    where
      go : In b (x ∷ sorted xs) → (In b (sorted xs) → In b xs) → In b (x ∷ xs)
      go (inl e) ih = inl e
      go (inr q) ih = inr (ih q)

  sorted_rising : (xs : List A) → Rising (sorted xs)
  unfolding sorted Rising
  sorted_rising [] = tt
  sorted_rising (x ∷ xs) = insert_rising x (sorted xs) (sorted_rising xs)

  rising_before : (before after : List A) (a b : A) → Rising (before ++ (a ∷ after)) → rank b < rank a → In b (before ++ (a ∷ after)) → In b before
  unfolding Rising
  rising_before [] after a b r h (inl e) = absurd (omega (arith, ap rank e))
  rising_before [] after a b r h (inr q) = absurd (omega (arith, r.0 b q))
  rising_before (x ∷ xs) after a b r h (inl e) = inl e
  rising_before (x ∷ xs) after a b r h (inr q) = inr (rising_before xs after a b r.1 h q)

  -- WHAT HAS A LOWER RANK STANDS EARLIER
  pub sorted_before : (xs before after : List A) (a b : A) → sorted xs ≡ before ++ (a ∷ after) → rank b < rank a → In b xs → In b before
  sorted_before xs before after a b e h i =
      rising_before before after a b (subst (λ (l : List A). Rising l) e (sorted_rising xs)) h (subst (λ (l : List A). In b l) e (sorted_in xs b i))
