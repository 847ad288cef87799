-- A sound program has no loop of uses.
use Prim.Native.Nat.{ℕ, zero, suc, ◌≤◌}
use mathlib.Core.Path.{◌≡◌, sym, ap, subst, ◌∙◌}
use mathlib.Core.Logic.{inl, inr}
use mathlib.Core.List.{List, [], ◌∷◌, ◌++◌, append_assoc, append-nil}
use native.Mathlib.Omega.{arith}
use lib.ListN.{length, length-append}
use Rattle.grammar.specs.Tree.{Line}
use Rattle.symbols.specs.Symbols.{Text}
use Rattle.names.specs.Uses.{In, HasLine, Uses, Leads, one, more, Loop, Sound}
use Rattle.names.proofs.Lists.{Split, split_at, in_left}

module _ (ls : List Line) (s : Sound ls) where
  -- the order is `front` and more
  abbrev Front : (front back : List Text) → Type 0
  Front front back = s.order ≡ front ++ back

  shorter : (front back : List Text) (x : Text) → Front front back → (p : Split Text front x) → Front p.before ((x ∷ p.after) ++ back)
  shorter front back x e p = e ∙ ap (λ (l : List Text). l ++ back) p.whole ∙ append_assoc p.before (x ∷ p.after) back

  used_before : (front back : List Text) (x y : Text) → Front front back → (p : Split Text front x) → Uses ls x y → In y p.before
  used_before front back x y e p u = s.earlier p.before (p.after ++ back) x y (shorter front back x e p) u

  -- what is used in a front stands in it, and so does what uses lead to
  closed : (front back : List Text) (x y : Text) → Front front back → In x front → Uses ls x y → In y front
  closed front back x y e i u =
      let p = split_at Text front x i in
      subst (λ (l : List Text). In y l) (sym p.whole) (in_left Text p.before (x ∷ p.after) y (used_before front back x y e p u))

  leads_closed : (front back : List Text) (x y : Text) → Front front back → In x front → Leads ls x y → In y front
  leads_closed front back x y e i (one _ u) = closed front back x y e i u
  leads_closed front back x y e i (more z _ l u) = closed front back z y e (leads_closed front back x z e i l) u

  loop_closed : (front back : List Text) (x y : Text) → Front front back → In y front → Loop ls x y → In x front
  loop_closed front back x y e i (inl q) = subst (λ (t : Text). In t front) (sym q) i
  loop_closed front back x y e i (inr l) = leads_closed front back y x e i l

  -- a name on a loop would stand in ever shorter fronts
  none_in : (k : ℕ) (front back : List Text) (x y : Text) → length front ≤ k → Front front back → In x front → Uses ls x y → Loop ls x y → ⊥
  none_in zero [] back x y h e i u l = i
  none_in zero (z ∷ zs) back x y h e i u l = omega arith
  none_in (suc k) front back x y h e i u l =
      let p = split_at Text front x i in
      let rest : List Text = (x ∷ p.after) ++ back in
      let f : Front p.before rest = shorter front back x e p in
      none_in k p.before rest x y (omega (arith, ap length p.whole, length-append p.before (x ∷ p.after))) f
      (loop_closed p.before rest x y f (used_before front back x y e p u) l) u l

  whole : Front s.order []
  whole = sym (append-nil s.order)

  -- A NAME USED HAS A LEGAL LINE
  pub sound_line : (x y : Text) → Uses ls x y → HasLine ls y
  sound_line x y u = s.only y (closed s.order [] x y whole (s.all x u.1.0) u)

  -- NO USE IS ON A LOOP
  pub sound_no_loop : (x y : Text) → Uses ls x y → Loop ls x y → ⊥
  sound_no_loop x y u = none_in (length s.order) s.order [] x y (omega arith) whole (s.all x u.1.0) u
