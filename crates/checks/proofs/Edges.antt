-- Where the name is the piece behind a newline, the jet list has its edges: that newline, the first byte, the last byte, a newline.
-- So a block without such edges is passed. Assumes nothing.
use Rattle.std.specs.Prelude.{if◌then◌else◌}
use Prim.Native.Nat.{ℕ, zero, suc, ◌+◌, ◌≤◌, ◌<◌}
use mathlib.Core.Bool.{Bool, true, false, not, ◌||◌}
use mathlib.Core.Path.{◌≡◌, refl, sym, ◌∙◌}
use mathlib.Core.List.{List, [], ◌∷◌}
use native.Mathlib.Omega.{arith}
use lib.Dec.{eqb}
use lib.ListN.{length, drop, get_or, length-drop, get_or-eq_default}
use lib.Seq.{get_or-drop}
use borrow.Author.Tests.{eqb-true, eq-eqb}
use Rattle.records.proofs.Choices.{and_left, and_right}
use Rattle.classes.specs.Classes.{word, starts, run}
use Rattle.classes.specs.declared.Class.TheVariants.{NotLf}
use Rattle.matches.specs.Code.{is_word}
use Rattle.checks.specs.Code.{is_first, is_behind, is_later, first_of, last_of, edged, any_edged}
use Rattle.checks.proofs.Lines.{later_at}

-- ---- the edges of a piece

-- each byte of a piece is the name's, and the one behind it is a newline
piece_byte : (name s : List ℕ) (k : ℕ) → length name ≡ run NotLf s → starts (word name) s ≡ true → length name < length s → k ≤ length name → get_or s k 0 ≡ get_or name k 10
unfolding run starts
piece_byte [] [] k e h l q = absurd (omega arith)
piece_byte [] (b ∷ s) (suc k) e h l q = absurd (omega arith)
piece_byte [] (b ∷ s) zero e h l q = go (eqb b 10) refl e
  where
    go : (t : Bool) → eqb b 10 ≡ t → 0 ≡ (if not t then suc (run NotLf s) else 0) → b ≡ 10
    go true x y = eqb-true b 10 x
    go false x y = absurd (omega arith)
piece_byte (x ∷ w) [] k e h l q = absurd (omega arith)
piece_byte (x ∷ w) (b ∷ s) zero e h l q = eqb-true b x (and_left (eqb b x) (starts (word w) s) h)
piece_byte (x ∷ w) (b ∷ s) (suc k) e h l q =
    piece_byte w s k (go (eqb b 10) e) (and_right (eqb b x) (starts (word w) s) h) (omega arith) (omega arith)
  where
    go : (t : Bool) → suc (length w) ≡ (if not t then suc (run NotLf s) else 0) → length w ≡ run NotLf s
    go true y = absurd (omega arith)
    go false y = omega arith

first_byte : (name s : List ℕ) (k : ℕ) → is_first name s ≡ true → length name < length s → k ≤ length name → get_or s k 0 ≡ get_or name k 10
unfolding is_first is_word
first_byte name s k h l q =
    piece_byte name s k (eqb-true (length name) (run NotLf s) (and_left (eqb (length name) (run NotLf s)) (starts (word name) s) h)) (and_right (eqb (length name) (run NotLf s)) (starts (word name) s) h) l q

-- the name behind a newline that is not too near to the end: the list has its edges there
module _ (name jets : List ℕ) (i : ℕ) (l : i + length name + 1 < length jets) (h : is_behind name jets i ≡ true) where
  before : get_or jets i 0 ≡ 10
  unfolding is_behind
  before = eqb-true (get_or jets i 0) 10 (and_left (eqb (get_or jets i 0) 10) (is_first name (drop (i + 1) jets)) h)

  byte : (k j : ℕ) → j ≡ i + 1 + k → k ≤ length name → get_or jets j 0 ≡ get_or name k 10
  unfolding is_behind
  byte k j e q =
      let f : is_first name (drop (i + 1) jets) ≡ true = and_right (eqb (get_or jets i 0) 10) (is_first name (drop (i + 1) jets)) h in
      let g : length name < length (drop (i + 1) jets) = omega (arith, length-drop (i + 1) jets) in
      rw (e, ← get_or-drop (i + 1) jets k 0) (first_byte name (drop (i + 1) jets) k f g q)

  last_byte : get_or jets (i + length name) 0 ≡ last_of name
  unfolding last_of
  last_byte = go (length name) refl
    where
      go : (m : ℕ) → length name ≡ m → get_or jets (i + m) 0 ≡ get_or (10 ∷ name) m 10
      go zero e = let z : i + 0 ≡ i = omega arith in rw z before
      go (suc k) e = byte k (i + suc k) (omega arith) (omega arith)

  behind_edged : edged jets (length name) (first_of name) (last_of name) i ≡ true
  unfolding edged first_of
  behind_edged =
      rw (
        eq-eqb _ _ before,
        eq-eqb _ _ (byte 0 (i + 1) (omega arith) (omega arith)),
        eq-eqb _ _ last_byte,
        eq-eqb _ _ (byte (length name) (i + length name + 1) (omega arith) (omega arith) ∙ get_or-eq_default name 10 (omega arith)),
      )

-- ---- a block without the edges

or_left_false : (p q : Bool) → p || q ≡ false → p ≡ false
or_left_false true q e = e
or_left_false false q e = refl

or_right_false : (p q : Bool) → p || q ≡ false → q ≡ false
or_right_false true q e = let z : ◌≡◌ {A = ℕ} 0 1 = cc in absurd (omega arith)
or_right_false false q e = e

-- an offset that has other edges has not the name behind it
not_edged : (name jets : List ℕ) (i : ℕ) → i + length name + 1 < length jets → edged jets (length name) (first_of name) (last_of name) i ≡ false → is_behind name jets i ≡ false
not_edged name jets i l f = go (is_behind name jets i) refl
  where
    go : (t : Bool) → is_behind name jets i ≡ t → t ≡ false
    go true h = sym (behind_edged name jets i l h) ∙ f
    go false h = refl

-- no offset of n has the edges, so the search goes on behind them
none_edged : (name jets : List ℕ) (at n : ℕ) → at + length name + n < length jets → any_edged jets (length name) (first_of name) (last_of name) at n ≡ false → is_later name (drop at jets) ≡ is_later name (drop (at + n) jets)
unfolding any_edged
none_edged name jets at zero l f = let z : at + 0 ≡ at = omega arith in rw z
none_edged name jets at (suc n) l f =
    let z : at + n + 1 ≡ at + suc n = omega arith in
    let a : Bool = any_edged jets (length name) (first_of name) (last_of name) at n in
    let b : Bool = edged jets (length name) (first_of name) (last_of name) (at + n) in
    none_edged name jets at n (omega arith) (or_left_false a b f)
    ∙ later_at name jets (at + n) (omega arith)
    ∙ rw (not_edged name jets (at + n) (omega arith) (or_right_false a b f), z)

-- the same, as the code has it of a block
pub block_none : (name jets : List ℕ) (at n first last : ℕ) (r : Bool) → at + length name + n < length jets → first ≡ first_of name → last ≡ last_of name → r ≡ any_edged jets (length name) first last at n → r ≡ false → is_later name (drop at jets) ≡ is_later name (drop (at + n) jets)
block_none name jets at n first last r l f g e x = none_edged name jets at n l (rw (← f, ← g, ← e) x)
