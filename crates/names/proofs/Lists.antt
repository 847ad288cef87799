-- Lists: what stands in one, no element twice, splitting at an element.
use Prim.Native.Nat.{ℕ}
use mathlib.Core.Path.{◌≡◌, refl, sym, ap, ap₂}
use mathlib.Core.Logic.{◌⊎◌, inl, inr}
use mathlib.Core.List.{List, [], ◌∷◌, ◌++◌, map}
use native.Mathlib.Omega.{arith}
use Rattle.names.specs.Uses.{In}

-- two lists that begin differently, or a list with an element that is empty
pub cons_not_nil : {A : Type 0} (x : A) (xs : List A) → ◌≡◌ {A = List A} (x ∷ xs) [] → ⊥
cons_not_nil x xs e = let z : ◌≡◌ {A = ℕ} 0 1 = cc in omega arith

module _ (A : Type 0) where
  -- no element twice
  abbrev pub Once : List A → Type 0
  Once [] = Unit {0}
  Once (x ∷ xs) = (In x xs → ⊥) × Once xs

  pub in_left : (xs ys : List A) (a : A) → In a xs → In a (xs ++ ys)
  in_left [] ys a h = absurd h
  in_left (x ∷ xs) ys a (inl e) = inl e
  in_left (x ∷ xs) ys a (inr h) = inr (in_left xs ys a h)

  pub in_right : (xs ys : List A) (a : A) → In a ys → In a (xs ++ ys)
  in_right [] ys a h = h
  in_right (x ∷ xs) ys a h = inr (in_right xs ys a h)

  pub in_either : (xs ys : List A) (a : A) → In a (xs ++ ys) → In a xs ⊎ In a ys
  in_either [] ys a h = inr h
  in_either (x ∷ xs) ys a (inl e) = inl (inl e)
  in_either (x ∷ xs) ys a (inr h) = go (in_either xs ys a h)
    where
      go : In a xs ⊎ In a ys → In a (x ∷ xs) ⊎ In a ys
      go (inl p) = inl (inr p)
      go (inr q) = inr q

  -- where a stands: what is before it, and what is after
  pub record Split (xs : List A) (a : A) : Type 0 where
    pub before : List A
    pub after : List A
    pub whole : xs ≡ before ++ (a ∷ after)

  pub split_at : (xs : List A) (a : A) → In a xs → Split xs a
  split_at [] a h = absurd h
  split_at (x ∷ xs) a (inl e) = record { before = []; after = xs; whole = ap {B = List A} (λ y. y ∷ xs) e }
  split_at (x ∷ xs) a (inr h) =
      let s = split_at xs a h in
      record { before = x ∷ s.before; after = s.after; whole = ap {B = List A} (λ l. x ∷ l) s.whole }

  pub split_in : (xs before after : List A) (a : A) → xs ≡ before ++ (a ∷ after) → In a xs
  split_in xs before after a e = rw e (in_right before (a ∷ after) a (inl refl))

  -- with no element twice, what stands at a split does not stand before it
  pub once_before : (before after : List A) (a : A) → Once (before ++ (a ∷ after)) → In a before → ⊥
  once_before [] after a o h = h
  once_before (x ∷ xs) after a o (inl e) = o.0 (in_right xs (a ∷ after) x (inl (sym e)))
  once_before (x ∷ xs) after a o (inr h) = once_before xs after a o.1 h

-- ---- a list mapped

module _ (A B : Type 0) (f : A → B) where
  pub in_map : (xs : List A) (a : A) → In a xs → In (f a) (map f xs)
  in_map [] a h = absurd h
  in_map (x ∷ xs) a (inl e) = inl (ap f e)
  in_map (x ∷ xs) a (inr h) = inr (in_map xs a h)

  pub in_unmap : (xs : List A) (b : B) → In b (map f xs) → (a : A) × In a xs × (f a ≡ b)
  in_unmap [] b h = absurd h
  in_unmap (x ∷ xs) b (inl e) = (x, inl refl, e)
  in_unmap (x ∷ xs) b (inr h) = let r = in_unmap xs b h in (r.0, inr r.1, r.2)

  pub record Unmapped (xs : List A) (before : List B) (b : B) : Type 0 where
    pub was_before : List A
    pub was : A
    pub was_after : List A
    pub whole : xs ≡ was_before ++ (was ∷ was_after)
    pub front : before ≡ map f was_before
    pub here : b ≡ f was

  -- a mapped list split is a split list mapped
  pub unmap_split : (xs : List A) (before after : List B) (b : B) → map f xs ≡ before ++ (b ∷ after) → Unmapped xs before b
  unmap_split [] [] after b e = absurd (cons_not_nil b after (sym e))
  unmap_split [] (y ∷ ys) after b e = absurd (cons_not_nil y (ys ++ (b ∷ after)) (sym e))
  unmap_split (x ∷ xs) [] after b e =
      let h : f x ≡ b = cc in
      record { was_before = []; was = x; was_after = xs; whole = refl; front = refl; here = sym h }
  unmap_split (x ∷ xs) (y ∷ ys) after b e =
      let h : f x ≡ y = cc in
      let t : map f xs ≡ ys ++ (b ∷ after) = cc in
      let r = unmap_split xs ys after b t in
      record {
        was_before = x ∷ r.was_before;
        was = r.was;
        was_after = r.was_after;
        whole = ap {B = List A} (λ l. x ∷ l) r.whole;
        front = ap₂ {C = List B} (λ a l. a ∷ l) (sym h) r.front;
        here = r.here;
      }
