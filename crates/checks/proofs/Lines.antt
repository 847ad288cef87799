-- The jet list piece after piece, and newline after newline, as the code goes through it. Assumes nothing.
use Rattle.std.specs.Prelude.{if◌then◌else◌}
use Prim.Native.Nat.{ℕ, zero, suc, min, ◌+◌, ◌-◌, ◌≤◌, ◌<◌}
use mathlib.Core.Bool.{Bool, true, false, not, ◌&&◌, ◌||◌, and-true, and-false, or-false}
use mathlib.Core.Path.{◌≡◌, refl, sym, ◌∙◌}
use mathlib.Core.List.{List, [], ◌∷◌}
use mathlib.Core.Logic.{⊎_elim}
use native.Mathlib.Numerals.{add-one}
use native.Mathlib.Omega.{arith}
use lib.Dec.{eqb, leb, leb-suc-zero, leb-suc-suc, eqb-zero-suc, eqb-suc-zero, eqb-suc-suc}
use lib.ListN.{length, take, drop, drop_of_length-le}
use lib.Seq.{drop-cons}
use borrow.Author.Tests.{eqb-true, eqb-false, eq-eqb, ne_eqb}
use Rattle.classes.proofs.Laws.{part_rest, run_le}
use Rattle.classes.specs.Classes.{word, starts, run}
use Rattle.classes.specs.declared.Class.TheVariants.{NotLf}
use Rattle.matches.specs.Code.{is_word}
use Rattle.checks.specs.Jets.{pushed, pieces, same, is_one_of, known}
use Rattle.checks.specs.Code.{is_first, is_behind, is_later}
use Rattle.checks.proofs.Powers.{lt_or_le}

-- ---- the first piece, which is a run of other bytes than newlines

-- the pieces behind a first one of n bytes
abbrev later_pieces : (n : ℕ) → List ℕ → List (List ℕ)
later_pieces n s = if leb (length s) n then [] else pieces (drop (suc n) s)

pieces_run : (s : List ℕ) → pieces s ≡ take (run NotLf s) s ∷ later_pieces (run NotLf s) s
unfolding pieces run
pieces_run [] = refl
pieces_run (b ∷ s) = go (eqb b 10) (run NotLf s) (pieces_run s)
  where
    go : (t : Bool) (n : ℕ) → pieces s ≡ take n s ∷ later_pieces n s → (if t then [] ∷ pieces s else pushed b (pieces s)) ≡ take (if not t then suc n else 0) (b ∷ s) ∷ later_pieces (if not t then suc n else 0) (b ∷ s)
    go true n e = rw (leb-suc-zero (length s))
    go false n e = rw (e, leb-suc-suc (length s) n)

eqb_turned : (a b : ℕ) → eqb a b ≡ eqb b a
eqb_turned a b = go (eqb a b) refl
  where
    go : (t : Bool) → eqb a b ≡ t → t ≡ eqb b a
    go true e = sym (eq-eqb b a (sym (eqb-true a b e)))
    go false e = sym (ne_eqb b a (λ x. eqb-false a b e (sym x)))

-- n bytes are the name if there are as many and the text begins with it
word_same : (w s : List ℕ) (n : ℕ) → n ≤ length s → is_word w n s ≡ same w (take n s)
unfolding is_word same starts
word_same [] s zero h = refl
word_same [] [] (suc n) h = absurd (omega arith)
word_same [] (b ∷ s) (suc n) h = rw (eqb-zero-suc n)
word_same (x ∷ w) s zero h = rw (eqb-suc-zero (length w))
word_same (x ∷ w) [] (suc n) h = absurd (omega arith)
word_same (x ∷ w) (b ∷ s) (suc n) h =
    rw (eqb-suc-suc (length w) n, eqb_turned b x) (go (eqb (length w) n) (eqb x b) (word_same w s n (omega arith)))
  where
    go : (p q : Bool) → p && starts (word w) s ≡ same w (take n s) → p && (q && starts (word w) s) ≡ q && same w (take n s)
    go true true e = e
    go true false e = refl
    go false true e = e
    go false false e = refl

-- ---- the first piece, and those behind a newline

first_same : (name s : List ℕ) → same name (take (run NotLf s) s) ≡ is_first name s
unfolding is_first
first_same name s = sym (word_same name s (run NotLf s) (run_le NotLf s))

later_pieces_law : (name s : List ℕ) → is_one_of name (later_pieces (run NotLf s) s) ≡ is_later name s
unfolding run is_later is_one_of
later_pieces_law name [] = refl
later_pieces_law name (b ∷ s) = go (eqb b 10) (later_pieces_law name s)
  where
    go : (t : Bool) → is_one_of name (later_pieces (run NotLf s) s) ≡ is_later name s → is_one_of name (later_pieces (if not t then suc (run NotLf s) else 0) (b ∷ s)) ≡ (t && is_first name s) || is_later name s
    go true e = rw (leb-suc-zero (length s), pieces_run s, first_same name s, e)
    go false e = rw (leb-suc-suc (length s) (run NotLf s)) e

pub listed_split : (name jets : List ℕ) → is_one_of name (pieces jets) ≡ is_first name jets || is_later name jets
unfolding is_one_of
listed_split name jets = rw (pieces_run jets, first_same name jets, later_pieces_law name jets)

-- the piece at an offset, r being whether the name stands there, as the code has it of the part from there on
module _ (name jets : List ℕ) (at : ℕ) (r : Bool) (w : r ≡ starts (word name) (take (length jets - at) (drop at jets))) where
  stands_here : starts (word name) (drop at jets) ≡ r
  stands_here = sym (w ∙ rw (part_rest jets at))

  pub first_not : r ≡ false → false ≡ is_first name (drop at jets)
  unfolding is_first is_word
  first_not f = rw (stands_here, f, and-false)

  pub first_ends : r ≡ true → (n : ℕ) → n ≡ run NotLf (drop at jets) → eqb (length name) n ≡ is_first name (drop at jets)
  unfolding is_first is_word
  first_ends t n e = rw (stands_here, t, and-true, e)

-- ---- the pieces behind a newline, from an offset on

-- r is whether the name is the piece behind a newline at the offset
module _ (name jets : List ℕ) (i : ℕ) where
  pub later_at : i < length jets → is_later name (drop i jets) ≡ is_behind name jets i || is_later name (drop (i + 1) jets)
  unfolding is_later is_behind
  later_at h = rw (drop-cons jets i 0, add-one)

  later_end : length jets ≤ i → is_later name (drop i jets) ≡ false
  unfolding is_later
  later_end h = rw drop_of_length-le

-- ---- the whole list

-- r is whether the name is a piece behind a newline from an offset to the end of the list
pub listed_last : (name jets : List ℕ) (at : ℕ) (r : Bool) → is_later name (drop at jets) ≡ r || is_later name (drop (length jets) jets) → is_later name (drop at jets) ≡ r
listed_last name jets at r e = e ∙ rw (later_end name jets (length jets) (omega arith), or-false)

-- what stands behind the first k bytes, as the code takes it
pub prefix_rest : (k : ℕ) (s : List ℕ) (at : ℕ) → at ≡ min k (length s) → take (length s - at) (drop at s) ≡ drop k s
prefix_rest k s at a = part_rest s at ∙ ⊎_elim {C = drop at s ≡ drop k s} long short (lt_or_le k (length s))
  where
    long : k < length s → drop at s ≡ drop k s
    long h = let e : at ≡ k = omega arith in rw e

    short : length s ≤ k → drop at s ≡ drop k s
    short h = let e : length s ≤ at = omega arith in drop_of_length-le s e ∙ sym (drop_of_length-le s h)

-- the name that the code takes of a jet's text
pub known_listed : (jets text : List ℕ) (at : ℕ) (r : Bool) → at ≡ min 4 (length text) → r ≡ is_one_of (take (length text - at) (drop at text)) (pieces jets) → known jets text ≡ r
unfolding known
known_listed jets text at r a e = sym (e ∙ rw (prefix_rest 4 text at a))
