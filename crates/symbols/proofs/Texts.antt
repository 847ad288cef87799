-- Texts that are compared and looked for, as the code does it. Assumes nothing.
use Rattle.std.specs.Prelude.{if◌then◌else◌}
use Prim.Native.Nat.{ℕ, suc, ◌+◌, ◌-◌, ◌≤◌, ◌<◌}
use mathlib.Core.Bool.{Bool, true, false, ◌&&◌}
use mathlib.Core.Path.{◌≡◌, refl, sym, ap, ◌∙◌}
use mathlib.Core.List.{List, [], ◌∷◌}
use native.Mathlib.Omega.{arith}
use lib.ListN.{length}
use lib.Dec.{eqb}
use lib.Pointwise.{pointwise}
use native.Mathlib.Numerals.{add-one}
use Rattle.records.specs.Base.{bytes}
use Rattle.classes.specs.Classes.{word, starts}
use Rattle.checks.specs.Jets.{same}
use Rattle.symbols.specs.Symbols.{Text, illegal, find_from}
use Rattle.symbols.specs.Texts.{name_text, texts_from}

-- ---- the same text

same_pointwise : (a b : Text) → same a b ≡ pointwise eqb a b
unfolding same
same_pointwise [] [] = refl
same_pointwise [] (y ∷ b) = refl
same_pointwise (x ∷ a) [] = refl
same_pointwise (x ∷ a) (y ∷ b) = rw (same_pointwise a b)

-- texts of one length are the same where one stands at the front of the other, and texts of two lengths never
pub same_starts : (a b : Text) → length a ≡ length b → starts (word b) a ≡ same a b
unfolding same starts
same_starts [] [] h = refl
same_starts [] (y ∷ b) h = absurd (omega arith)
same_starts (x ∷ a) [] h = absurd (omega arith)
same_starts (x ∷ a) (y ∷ b) h = rw (same_starts a b (omega arith))

pub same_apart : (a b : Text) → (length a ≡ length b → ⊥) → false ≡ same a b
unfolding same
same_apart [] [] h = absurd (h refl)
same_apart [] (y ∷ b) h = refl
same_apart (x ∷ a) [] h = refl
same_apart (x ∷ a) (y ∷ b) h = go (eqb x y) (same_apart a b (λ e. h (ap suc e)))
  where
    go : (p : Bool) → false ≡ same a b → false ≡ p && same a b
    go true e = e
    go false e = refl

-- ---- illegal names

pub illegal_blank : (x : Text) (r : Bool) → r ≡ pointwise eqb x (bytes "_") → r ≡ true → r ≡ illegal x
unfolding illegal
illegal_blank x r e f = rw (same_pointwise x (bytes "_"), ← e, f)

pub illegal_prim : (x : Text) (b r : Bool) → b ≡ pointwise eqb x (bytes "_") → b ≡ false → r ≡ starts (word (bytes "prim")) x → r ≡ illegal x
unfolding illegal
illegal_prim x b r e f g = g ∙ rw (same_pointwise x (bytes "_"), ← e, f)

-- ---- a text looked for, of n names from number i on

module _ (s t : List ℕ) (n : ℕ) (x : Text) where
  abbrev pub found_from : (i : ℕ) → ℕ
  found_from i = find_from i (texts_from s t i (suc n - i)) x

  one : (i : ℕ) → i ≤ n → found_from i ≡ (if same (name_text s t i) x then i else found_from (i + 1))
  unfolding find_from texts_from
  one i h =
      let z : suc n - i ≡ suc (suc n - (i + 1)) = omega arith in
      rw (z, add-one i)

  pub found_here : (i : ℕ) (y : Text) (b : Bool) → i ≤ n → y ≡ name_text s t i → b ≡ same y x → b ≡ true → i ≡ found_from i
  found_here i y b h ey eb e = sym (one i h ∙ rw (← ey, ← eb, e))

  pub found_later : (i : ℕ) (y : Text) (b : Bool) → i ≤ n → y ≡ name_text s t i → b ≡ same y x → b ≡ false → found_from i ≡ found_from (i + 1)
  found_later i y b h ey eb e = one i h ∙ rw (← ey, ← eb, e)

  pub found_none : (i : ℕ) → n < i → 0 ≡ found_from i
  unfolding find_from texts_from
  found_none i h = let z : suc n - i ≡ 0 = omega arith in rw z
