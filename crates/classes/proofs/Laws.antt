-- Laws of runs and of words at the front, in plain lists and numbers. Assumes nothing.
use Rattle.std.specs.Prelude.{if◌then◌else◌}
use Rattle.std.specs.List.{prefix_len, take_while}
use Rattle.std.proofs.lemmas.List.Folds.{length-prefix_len}
use Rattle.std.proofs.Common.{cond, rules, tests}
use lib.Pointwise.{pointwise}
use Prim.Native.Nat.{ℕ, zero, suc, min, ◌+◌, ◌-◌, ◌≤◌, ◌<◌}
use mathlib.Core.Bool.{Bool, true, false, ◌&&◌}
use mathlib.Core.Path.{◌≡◌, refl, sym, ap, ◌∙◌}
use mathlib.Core.List.{List, [], ◌∷◌, ◌++◌}
use native.Mathlib.Omega.{arith}
use lib.ListN.{length, take, drop, replicate, length-drop, drop_of_length-le}
use lib.Seq.{take_all}
use lib.Dec.{eqb, leb, ltb, leb-zero, leb-suc-zero, leb-suc-suc}
use borrow.Author.Tests.{ltb-true, lt-ltb, leb-true, leb-false}
use Rattle.records.proofs.Choices.{and_right}
use Rattle.classes.specs.declared.Class.{Class}
use Rattle.classes.specs.Classes.{has, word, starts, run}

-- a run, as many bytes from the front on as the class has
run_prefix : (c : Class) (s : List ℕ) → run c s ≡ prefix_len (has c) s
unfolding run
run_prefix c [] = refl
run_prefix c (b ∷ s) = go (has c b) (run_prefix c s)
  where
    go : (p : Bool) → run c s ≡ prefix_len (has c) s → (if p then suc (run c s) else 0) ≡ cond p (1 + prefix_len (has c) s) 0
    go true e = omega arith
    go false e = refl

-- a word at the front
same_either_way : (a b : ℕ) → eqb a b ≡ eqb b a
same_either_way a b = search (rules, tests)

pub starts_word : (w s : List ℕ) → starts (word w) s ≡ pointwise eqb w (take (length w) s)
unfolding starts
starts_word [] s = refl
starts_word (k ∷ w) [] = refl
starts_word (k ∷ w) (b ∷ s) = rw (same_either_way b k, starts_word w s)

pub run_le : (c : Class) (s : List ℕ) → run c s ≤ length s
unfolding run
run_le c [] = omega arith
run_le c (b ∷ s) = go (has c b) (run_le c s)
  where
    go : (p : Bool) → run c s ≤ length s → (if p then suc (run c s) else 0) ≤ suc (length s)
    go true h = omega arith
    go false h = omega arith

-- the part of a slice to its end
pub part_rest : (s : List ℕ) (at : ℕ) → take (length s - at) (drop at s) ≡ drop at s
part_rest s at = take_all (length s - at) (drop at s) (omega (arith, length-drop at s))

-- the run in the part that begins at `at`, or at the text's end where that is before
pub run_counted : (c : Class) (s : List ℕ) (at k r : ℕ) → k ≡ min at (length s) → r ≡ length (take_while (has c) (take (length s - k) (drop k s))) → (r ≡ run c (drop at s)) × (r ≤ length s)
run_counted c s at k r e f =
    let d : drop k s ≡ drop at s = go (leb at (length s)) refl in
    let n : r ≡ run c (drop at s) = f ∙ ap (λ t. length (take_while (has c) t)) (part_rest s k ∙ d) ∙ length-prefix_len (has c) (drop at s) ∙ sym (run_prefix c (drop at s)) in
    (n, omega (arith, n, run_le c (drop at s), length-drop at s))
  where
    go : (b : Bool) → leb at (length s) ≡ b → drop k s ≡ drop at s
    go true h = let l : at ≤ length s = leb-true _ _ h in let z : k ≡ at = omega arith in rw z
    go false h =
        let l : length s < at = leb-false _ _ h in
        let m : length s ≤ k = omega arith in
        let n : length s ≤ at = omega arith in
        drop_of_length-le s m ∙ sym (drop_of_length-le s n)

-- a class with more bytes runs as far or farther
pub run_mono : (c d : Class) → ((b : ℕ) → has c b ≡ true → has d b ≡ true) → (s : List ℕ) → run c s ≤ run d s
unfolding run
run_mono c d f [] = omega arith
run_mono c d f (b ∷ s) = go (has c b) refl (run_mono c d f s)
  where
    go : (p : Bool) → has c b ≡ p → run c s ≤ run d s → (if p then (suc (run c s)) else 0) ≤ (if (has d b) then (suc (run d s)) else 0)
    go true e h = rw (f b e) (omega arith)
    go false e h = omega arith

-- at least one byte of the class, and then any number: by the run of all of them
class_first : (c : Class) (t : List ℕ) → starts (c ∷ []) t ≡ ltb 0 (run c t)
unfolding starts run
class_first c [] = refl
class_first c (b ∷ t) = go (has c b)
  where
    go : (p : Bool) → (p && true) ≡ ltb 0 (if p then (suc (run c t)) else 0)
    go true = sym (lt-ltb 0 (suc (run c t)) (omega arith))
    go false = refl

class_rest : (c : Class) (t : List ℕ) → 0 < run c t → suc (run c (drop 1 t)) ≡ run c t
unfolding run
class_rest c [] h = absurd (omega arith)
class_rest c (b ∷ t) h = go (has c b) h
  where
    go : (p : Bool) → 0 < (if p then (suc (run c t)) else 0) → suc (run c t) ≡ (if p then (suc (run c t)) else 0)
    go true h = refl
    go false h = absurd (omega arith)

pub counted : (c : Class) (k : ℕ) (t : List ℕ) → (if (starts (c ∷ []) t) then (suc k + run c (drop 1 t)) else 0) ≡ (if (ltb 0 (run c t)) then (k + run c t) else 0)
counted c k t = rw class_first (go (ltb 0 (run c t)) refl)
  where
    go : (q : Bool) → ltb 0 (run c t) ≡ q → (if q then (suc k + run c (drop 1 t)) else 0) ≡ (if q then (k + run c t) else 0)
    go true e = omega (arith, class_rest c t (ltb-true _ _ e))
    go false e = refl

-- classes at the front: so many times one, one list after another, no more than there are bytes
pub starts_replicate : (c : Class) (k : ℕ) (t : List ℕ) → starts (replicate k c) t ≡ leb k (run c t)
unfolding starts run
starts_replicate c zero t = sym (leb-zero (run c t))
starts_replicate c (suc k) [] = sym (leb-suc-zero k)
starts_replicate c (suc k) (b ∷ t) = go (has c b) (starts_replicate c k t)
  where
    go : (p : Bool) → starts (replicate k c) t ≡ leb k (run c t) → (p && (starts (replicate k c) t)) ≡ leb (suc k) (if p then (suc (run c t)) else 0)
    go true h = h ∙ sym (leb-suc-suc k (run c t))
    go false h = sym (leb-suc-zero k)

pub starts_append : (xs ys : List Class) (s : List ℕ) → starts (xs ++ ys) s ≡ ((starts xs s) && (starts ys (drop (length xs) s)))
unfolding starts
starts_append [] ys s = refl
starts_append (x ∷ xs) ys [] = refl
starts_append (x ∷ xs) ys (b ∷ s) = go (has x b) (starts_append xs ys s)
  where
    go : (p : Bool) → starts (xs ++ ys) s ≡ ((starts xs s) && (starts ys (drop (length xs) s))) → (p && (starts (xs ++ ys) s)) ≡ ((p && (starts xs s)) && (starts ys (drop (length xs) s)))
    go true h = h
    go false h = refl

pub starts_le : (f : List Class) (s : List ℕ) → starts f s ≡ true → length f ≤ length s
unfolding starts
starts_le [] s e = omega arith
starts_le (c ∷ cs) [] e = let y : ◌≡◌ {A = ℕ} 0 1 = cc in absurd (omega arith)
starts_le (c ∷ cs) (b ∷ s) e = omega (arith, starts_le cs s (and_right (has c b) _ e))
