-- A jet is known exactly if its name is a piece of the list. Assumes nothing.
use Rattle.std.specs.Prelude.{if◌then◌else◌}
use Prim.Native.Nat.{ℕ}
use mathlib.Core.Bool.{Bool, true, false, ◌||◌, or-true}
use mathlib.Core.Logic.{◌⊎◌, inl, inr, ⊎_elim, ◌↔◌}
use mathlib.Core.Path.{◌≡◌, refl, sym, ap, ◌∙◌}
use mathlib.Core.List.Memᴰ
use mathlib.Core.List.{List, [], ◌∷◌, ◌++◌, Memᴰ, append_assoc}
use native.Mathlib.Omega.{arith}
use lib.Dec.{eqb}
use lib.ListN.{drop}
use borrow.Author.Tests.{eq-eqb, eqb-true, eqb-false}
use Rattle.records.proofs.Choices.{and_left, and_right, or_cases}
use Rattle.checks.specs.Jets.{Piece, pushed, pieces, same, is_one_of, known}

-- ---- equal lists

pub same_self : (p : List ℕ) → same p p ≡ true
unfolding same
same_self [] = refl
same_self (b ∷ p) = rw (eq-eqb b b refl, same_self p)

pub same_equal : (p q : List ℕ) → same p q ≡ true → p ≡ q
unfolding same
same_equal [] [] e = refl
same_equal [] (y ∷ q) e = let z : true ≡ false = sym e in cc
same_equal (x ∷ p) [] e = let z : true ≡ false = sym e in cc
same_equal (x ∷ p) (y ∷ q) e =
    let a : x ≡ y = eqb-true x y (and_left (eqb x y) (same p q) e) in
    let b : p ≡ q = same_equal p q (and_right (eqb x y) (same p q) e) in
    cc

-- ---- a list as its first piece and the later ones

data Split : List ℕ → List ℕ → List (List ℕ) → Type 0 where
  none : Split [] [] []
  newline : {b : ℕ} {s q : List ℕ} {qs : List (List ℕ)} → b ≡ 10 → Split s q qs → Split (b ∷ s) [] (q ∷ qs)
  byte : {b : ℕ} {s q : List ℕ} {qs : List (List ℕ)} → (b ≡ 10 → ⊥) → Split s q qs → Split (b ∷ s) (b ∷ q) qs

record Splits (s : List ℕ) (ps : List (List ℕ)) : Type 0 where
  first : List ℕ
  later : List (List ℕ)
  made : ps ≡ first ∷ later
  split : Split s first later

splits : (s : List ℕ) → Splits s (pieces s)
unfolding pieces
splits [] = record { first = []; later = []; made = refl; split = none }
splits (b ∷ s) = go (eqb b 10) refl (splits s)
  where
    go : (t : Bool) → eqb b 10 ≡ t → Splits s (pieces s) → Splits (b ∷ s) (if t then [] ∷ pieces s else pushed b (pieces s))
    go true e r =
        record { first = []; later = r.first ∷ r.later; made = ap (λ (ps : List (List ℕ)). [] ∷ ps) r.made; split = newline (eqb-true b 10 e) r.split }
    go false e r =
        record { first = b ∷ r.first; later = r.later; made = ap (pushed b) r.made; split = byte (eqb-false b 10 e) r.split }

-- p is the first piece of s
record First (p s : List ℕ) : Type 0 where
  after : List ℕ
  whole : s ≡ p ++ after
  unbroken : Memᴰ 10 p → ⊥
  ends : (after ≡ []) ⊎ ((b : List ℕ) × (after ≡ 10 ∷ b))

-- p is a piece of s behind a newline
record Later (p s : List ℕ) : Type 0 where
  lines : List ℕ
  rest : List ℕ
  whole : s ≡ lines ++ (10 ∷ rest)
  first : First p rest

-- ---- what is found is there

first_there : {s q : List ℕ} {qs : List (List ℕ)} → Split s q qs → First q s
first_there none = record { after = []; whole = refl; unbroken = Memᴰ.not-nil; ends = inl refl }
first_there (newline {b} {s} e r) =
    record { after = b ∷ s; whole = refl; unbroken = Memᴰ.not-nil; ends = inr (s, rw e) }
first_there (byte {b} n r) =
    let f = first_there r in
    record {
      after = f.after;
      whole = ap (λ (s : List ℕ). b ∷ s) f.whole;
      unbroken = λ m. ⊎_elim (λ e. n (sym e)) f.unbroken (Memᴰ.cases_cons m);
      ends = f.ends;
    }

later_more : {p s : List ℕ} (b : ℕ) → Later p s → Later p (b ∷ s)
later_more b l = record { lines = b ∷ l.lines; rest = l.rest; whole = ap (λ (s : List ℕ). b ∷ s) l.whole; first = l.first }

later_there : {s q : List ℕ} {qs : List (List ℕ)} (p : List ℕ) → Split s q qs → is_one_of p qs ≡ true → Later p s
unfolding is_one_of
later_there p none e = let z : ◌≡◌ {A = ℕ} 0 1 = cc in absurd (omega arith)
later_there p (newline {b} {s} {q} {qs} n r) e =
    ⊎_elim
    (λ x. record { lines = []; rest = s; whole = rw n; first = rw (same_equal p q x) (first_there r) })
    (λ x. later_more b (later_there p r x))
    (or_cases (same p q) (is_one_of p qs) e)
later_there p (byte {b} n r) e = later_more b (later_there p r e)

-- ---- what is there is found

first_found : {s q : List ℕ} {qs : List (List ℕ)} (p after : List ℕ) → Split s q qs → s ≡ p ++ after → (Memᴰ 10 p → ⊥) → (after ≡ []) ⊎ ((b : List ℕ) × (after ≡ 10 ∷ b)) → p ≡ q
first_found [] after none e u h = refl
first_found (c ∷ p) after none e u h = let z : ◌≡◌ {A = ℕ} 0 1 = cc in absurd (omega arith)
first_found [] after (newline n r) e u h = refl
first_found (c ∷ p) after (newline n r) e u h = let z : 10 ≡ c = cc in absurd (u (Memᴰ.head z))
first_found [] after (byte {b} n r) e u (inl x) = let z : ◌≡◌ {A = ℕ} 0 1 = cc in absurd (omega arith)
first_found [] after (byte {b} n r) e u (inr (t, x)) = let z : b ≡ 10 = cc in absurd (n z)
first_found (c ∷ p) after (byte {b} {s} {q} n r) e u h =
    let z : s ≡ p ++ after = cc in
    let w : p ≡ q = first_found p after r z (λ m. u (Memᴰ.tail m)) h in
    cc

later_found : {s q : List ℕ} {qs : List (List ℕ)} (p lines rest : List ℕ) → Split s q qs → s ≡ lines ++ (10 ∷ rest) → First p rest → is_one_of p qs ≡ true
unfolding is_one_of
later_found p [] rest none e f = let z : ◌≡◌ {A = ℕ} 0 1 = cc in absurd (omega arith)
later_found p (c ∷ l) rest none e f = let z : ◌≡◌ {A = ℕ} 0 1 = cc in absurd (omega arith)
later_found p [] rest (newline {b} {s} {q} n r) e f =
    let z : s ≡ rest = cc in
    rw (← first_found p f.after r (z ∙ f.whole) f.unbroken f.ends, same_self p)
later_found p (c ∷ l) rest (newline {b} {s} n r) e f =
    let z : s ≡ l ++ (10 ∷ rest) = cc in
    rw (later_found p l rest r z f, or-true)
later_found p [] rest (byte {b} n r) e f = let z : b ≡ 10 = cc in absurd (n z)
later_found p (c ∷ l) rest (byte {b} {s} n r) e f =
    let z : s ≡ l ++ (10 ∷ rest) = cc in
    later_found p l rest r z f

-- ---- both

piece_found : (p jets : List ℕ) → Splits jets (pieces jets) → Piece p jets → is_one_of p (pieces jets) ≡ true
unfolding is_one_of
piece_found p jets r k = rw r.made (go k.begins)
  where
    go : (k.before ≡ []) ⊎ ((a : List ℕ) × (k.before ≡ a ++ (10 ∷ []))) → same p r.first || is_one_of p r.later ≡ true
    go (inl e) =
        let z : jets ≡ p ++ k.after = k.whole ∙ rw e in
        rw (← first_found p k.after r.split z k.unbroken k.ends, same_self p)
    go (inr (a, e)) =
        let z : jets ≡ a ++ (10 ∷ (p ++ k.after)) = k.whole ∙ rw (e, append_assoc) in
        rw (
          later_found p a (p ++ k.after) r.split z
              (record { after = k.after; whole = refl; unbroken = k.unbroken; ends = k.ends }),
          or-true,
        )

piece_there : (p jets : List ℕ) → Splits jets (pieces jets) → is_one_of p (pieces jets) ≡ true → Piece p jets
unfolding is_one_of
piece_there p jets r h =
    ⊎_elim
    (λ e.
    let f : First p jets = rw (same_equal p r.first e) (first_there r.split) in
    record { before = []; after = f.after; whole = f.whole; unbroken = f.unbroken; begins = inl refl; ends = f.ends })
    (λ e.
    let l = later_there p r.split e in
    let f = l.first in
    record {
      before = l.lines ++ (10 ∷ []);
      after = f.after;
      whole = l.whole ∙ rw (append_assoc l.lines (10 ∷ []) (p ++ f.after), f.whole);
      unbroken = f.unbroken;
      begins = inr (l.lines, refl);
      ends = f.ends;
    })
    (or_cases (same p r.first) (is_one_of p r.later) (rw r.made at h))

-- exactly if
pub known_piece : (jets text : List ℕ) → (known jets text ≡ true) ↔ Piece (drop 4 text) jets
unfolding known
known_piece jets text = (piece_there (drop 4 text) jets (splits jets), piece_found (drop 4 text) jets (splits jets))
