-- The character at the front of a text: what `char_len` computes is what the grammar's rules declare. Assumes nothing.
use Rattle.std.specs.Prelude.{if◌then◌else◌}
use Prim.Native.Nat.{ℕ, suc, ◌≤◌, ◌<◌}
use mathlib.Core.Bool.{Bool, true, false, ◌&&◌, ◌||◌, and-false}
use mathlib.Core.Path.{◌≡◌, refl, sym, ap}
use mathlib.Core.List.{List, [], ◌∷◌, ◌++◌}
use mathlib.Core.Logic.{◌⊎◌, inl, inr, ⊎_elim}
use native.Mathlib.Omega.{arith}
use lib.ListN.{length, take, length-take}
use lib.Dec.{ltb}
use borrow.Author.Tests.{le-leb, lt-leb, ltb-true}
use Rattle.records.proofs.Choices.{and_left, and_right, or_cases, within_low, within_high}
use Rattle.records.specs.Base.{within}
use Rattle.text.specs.Utf8.{Range, rules, Fits, done, byte, Char, here, later}
use Rattle.text.specs.Check.{begins, length_by, char_len}

-- a rule's test on the front of a text is that the front fits the rule
fits_begins : {r : List Range} {c : List ℕ} (t : List ℕ) → Fits r c → begins r (c ++ t) ≡ true
fits_begins t done = refl
fits_begins t (byte {r} {rs} {b} {bs} h k f) = simp (le-leb _ _ h, le-leb _ _ k, fits_begins t f)

fits_length : {r : List Range} {c : List ℕ} → Fits r c → length c ≡ length r
fits_length done = refl
fits_length (byte h k f) = ap suc (fits_length f)

begins_fits : (r : List Range) (s : List ℕ) → begins r s ≡ true → Fits r (take (length r) s)
begins_fits [] s e = done
begins_fits (r ∷ rs) [] e = let z : ◌≡◌ {A = ℕ} 0 1 = cc in absurd (omega arith)
begins_fits (r ∷ rs) (b ∷ s) e =
    let i = and_left (within r.lo r.hi b) _ e in
    byte (within_low r.lo r.hi b i) (within_high r.lo r.hi b i)
    (begins_fits rs s (and_right (within r.lo r.hi b) _ e))

-- no text begins with both rules: at some byte their ranges do not meet
apart : List Range → List Range → Bool
apart [] qs = false
apart (p ∷ ps) [] = false
apart (p ∷ ps) (q ∷ qs) = (ltb p.hi q.lo || ltb q.hi p.lo) || apart ps qs

apart_all : List Range → List (List Range) → Bool
apart_all r [] = true
apart_all r (q ∷ qs) = apart r q && apart_all r qs

-- no rule is empty, and no two rules meet
pub separate : List (List Range) → Bool
separate [] = true
separate (r ∷ rs) = ltb 0 (length r) && (apart_all r rs && separate rs)

pub rules_separate : separate rules ≡ true
unfolding separate apart_all apart
rules_separate = refl

outside : (p q : Range) (b : ℕ) → ltb p.hi q.lo || ltb q.hi p.lo ≡ true → q.lo ≤ b → b ≤ q.hi → within p.lo p.hi b ≡ false
outside p q b e h k =
    ⊎_elim
    (λ l. let x : p.hi < q.lo = ltb-true _ _ l in simp (lt-leb b p.hi (omega arith), and-false))
    (λ r. let x : q.hi < p.lo = ltb-true _ _ r in simp (lt-leb p.lo b (omega arith)))
    (or_cases (ltb p.hi q.lo) _ e)

apart_begins : (r : List Range) {q : List Range} {c : List ℕ} (t : List ℕ) → Fits q c → apart r q ≡ true → begins r (c ++ t) ≡ false
unfolding apart
apart_begins [] t f e = let z : ◌≡◌ {A = ℕ} 0 1 = cc in absurd (omega arith)
apart_begins (p ∷ ps) t done e = let z : ◌≡◌ {A = ℕ} 0 1 = cc in absurd (omega arith)
apart_begins (p ∷ ps) t (byte {r} {rs} {b} {bs} h k f) e =
    ⊎_elim
    (λ l. simp (outside p r b l h k))
    (λ l. simp (apart_begins ps t f l, and-false))
    (or_cases (ltb p.hi r.lo || ltb r.hi p.lo) _ e)

apart_char : (r : List Range) {rs : List (List Range)} {c : List ℕ} (t : List ℕ) → Char rs c → apart_all r rs ≡ true → begins r (c ++ t) ≡ false
unfolding apart_all
apart_char r t (here {r = q} f) e = apart_begins r t f (and_left (apart r q) _ e)
apart_char r t (later {r = q} k) e = apart_char r t k (and_right (apart r q) _ e)

-- the character at the front is found, with its length
pub char_length : {rs : List (List Range)} {c : List ℕ} (t : List ℕ) → Char rs c → separate rs ≡ true → (length_by rs (c ++ t) ≡ length c) × (0 < length c)
unfolding separate
char_length t (here {r} {rs} f) e =
    let z : 0 < length r = ltb-true _ _ (and_left (ltb 0 (length r)) _ e) in
    (rw (fits_begins t f) (sym (fits_length f)), rw (fits_length f) z)
char_length t (later {r} {rs} k) e =
    let w = and_right (ltb 0 (length r)) _ e in
    let h = char_length t k (and_right (apart_all r rs) _ w) in
    (rw (apart_char r t k (and_left (apart_all r rs) _ w)) h.0, h.1)

-- what is found is a character
abbrev pub Found : List (List Range) → List ℕ → ℕ → Type 0
Found rs s n = (n ≡ 0) ⊎ (Char rs (take n s) × (n ≤ length s))

pub length_char : (rs : List (List Range)) (s : List ℕ) → Found rs s (length_by rs s)
length_char [] s = inl refl
length_char (r ∷ rs) s = go (begins r s) refl (length_char rs s)
  where
    go : (b : Bool) → begins r s ≡ b → Found rs s (length_by rs s) → Found (r ∷ rs) s (if b then length r else length_by rs s)
    go true e h =
        let f = begins_fits r s e in
        inr (here f, omega (arith, simp length-take at (fits_length f)))
    go false e (inl z) = inl z
    go false e (inr h) = inr (later h.0, h.1)

-- a character lies inside the text
pub char_inside : (s : List ℕ) → char_len s ≤ length s
unfolding char_len
char_inside s = go (length_by rules s) (length_char rules s)
  where
    go : (n : ℕ) → Found rules s n → n ≤ length s
    go n (inl z) = omega arith
    go n (inr f) = f.1
