-- The place behind bytes: the line counts the line feeds, and the column the characters that begin behind the last one. Assumes
-- nothing.
use Rattle.std.specs.Prelude.{if◌then◌else◌}
use Prim.Native.Nat.{ℕ, suc, ◌+◌, ◌≤◌, ◌<◌, min}
use mathlib.Core.Bool.{Bool, true, false}
use mathlib.Core.Path.{◌≡◌, refl, sym, ap, ◌∙◌}
use mathlib.Core.List.{List, [], ◌∷◌, ◌++◌, foldl}
use native.Mathlib.Omega.{arith}
use native.Mathlib.Numerals.{add-one}
use mir.Val.{bool_byte}
use lib.Dec.{eqb, leb}
use Rattle.std.specs.List.{push}
use lib.ListN.{length, get_or, take, drop, length-append, drop_of_length-le}
use lib.Seq.{take_all, drop-cons}
use borrow.Author.Tests.{leb-true, leb-false, ne_eqb}
use Rattle.text.specs.declared.Position.{Position}
use Rattle.text.specs.Place.{begins_char, pass, position_of}

abbrev start : Position
start = record { line = 1; column = 1 }

-- the place behind all of the bytes
abbrev pub behind : List ℕ → Position
behind bs = position_of bs (length bs)

-- how many line feeds there are
unfoldable pub feeds : List ℕ → ℕ
feeds [] = 0
feeds (b ∷ s) = bool_byte (eqb b 10) + feeds s

feeds_append : (s t : List ℕ) → feeds (s ++ t) ≡ feeds s + feeds t
unfolding feeds
feeds_append [] t = omega arith
feeds_append (b ∷ s) t = omega (arith, feeds_append s t)

feeds_most : (s : List ℕ) → feeds s ≤ length s
unfolding feeds
feeds_most [] = omega arith
feeds_most (b ∷ s) = go (eqb b 10) (feeds_most s)
  where
    go : (x : Bool) → feeds s ≤ length s → bool_byte x + feeds s ≤ suc (length s)
    go true h = omega arith
    go false h = omega arith

one_most : (b : Bool) → bool_byte b ≤ 1
one_most true = omega arith
one_most false = omega arith

-- ---- what the loops keep: n are counted of s, and a byte or a block more is

pub feeds_byte : (s : List ℕ) (i n : ℕ) {k : ℕ} → i < length s → k ≡ bool_byte (eqb (get_or s i 0) 10) → (n ≤ i) × (feeds s ≡ n + feeds (drop i s)) → (n + k ≤ i + 1) × (feeds s ≡ n + k + feeds (drop (i + 1) s))
unfolding feeds
feeds_byte s i n {k} h e (l, f) = (omega (arith, one_most (eqb (get_or s i 0) 10)), rw (f, drop-cons s i 0, e, add-one i) (omega arith))

pass_line : (p : Position) (b : ℕ) → (pass p b).line ≡ p.line + bool_byte (eqb b 10)
unfolding pass
pass_line p b = go (eqb b 10) (begins_char b)
  where
    go : (x y : Bool) → (if x then record { line = p.line + 1; column = 1 } else if y then record { line = p.line; column = p.column + 1 } else p).line ≡ p.line + bool_byte x
    go true y = refl
    go false true = omega arith
    go false false = omega arith

fold_line : (p : Position) (s : List ℕ) → (foldl pass p s).line ≡ p.line + feeds s
unfolding feeds
fold_line p [] = omega arith
fold_line p (b ∷ s) = omega (arith, fold_line (pass p b) s, pass_line p b)

behind_is : (s : List ℕ) → behind s ≡ foldl pass start s
unfolding position_of
behind_is s = ap (foldl pass start) (take_all (length s) s (omega arith))

pub behind_line : (s : List ℕ) → (behind s).line ≡ 1 + feeds s
behind_line s = ap (λ (p : Position). p.line) (behind_is s) ∙ fold_line start s

-- none is left of a block that is passed
pub feeds_whole : (s : List ℕ) (i n : ℕ) → length s ≤ i → feeds s ≡ n + feeds (drop i s) → n + 1 ≡ (behind s).line
unfolding feeds
feeds_whole s i n h f = omega (arith, behind_line s, rw (drop_of_length-le s h) at f)

-- a block more is counted, and no more than there are bytes
pub feeds_block : (all block rest : List ℕ) (n : ℕ) {m k : ℕ} {s : List ℕ} → s ≡ block ++ rest → m + 1 ≡ (behind block).line → k ≡ m → 1 + feeds all ≡ n + feeds s → (n + k ≤ 1 + length all) × (1 + feeds all ≡ n + k + feeds rest)
feeds_block all block rest n {m} {k} {s} e l q f =
    let b : k ≡ feeds block = omega (arith, behind_line block) in
    let a : feeds s ≡ feeds block + feeds rest = rw e (feeds_append block rest) in
    (omega (arith, feeds_most all), omega arith)

-- none is left
pub feeds_done : (all s : List ℕ) (n : ℕ) → length s ≡ 0 → 1 + feeds all ≡ n + feeds s → n ≡ (behind all).line
unfolding feeds
feeds_done all [] n e f = omega (arith, behind_line all)
feeds_done all (b ∷ s) n e f = absurd (omega arith)

-- ---- from the end back: one byte less

fold_push : (p : Position) (s : List ℕ) (b : ℕ) → foldl pass p (s ++ b ∷ []) ≡ pass (foldl pass p s) b
fold_push p [] b = refl
fold_push p (a ∷ s) b = fold_push (pass p a) s b

behind_push : (s : List ℕ) (b : ℕ) → behind (s ++ b ∷ []) ≡ pass (behind s) b
behind_push s b = behind_is (s ++ b ∷ []) ∙ fold_push start s b ∙ ap (λ (p : Position). pass p b) (sym (behind_is s))

-- n is the column behind what is passed, and r is left
abbrev pub Counted : (all r : List ℕ) (n : ℕ) → Type 0
Counted all r n = (n + length r ≤ 1 + length all) × ((behind all).column + 1 ≡ (behind r).column + n)

module _ (all s : List ℕ) (n : ℕ) {b : ℕ} {r : List ℕ} (e : r ≡ push s b) (c : Counted all r n) where
  -- behind a line feed the column is the first,
  pub column_feed : b ≡ 10 → n ≡ (behind all).column
  unfolding pass
  column_feed h =
      let p : (behind r).column ≡ 1 = rw (e, behind_push s b, h) in
      omega (arith, c.1, p)

  -- and another byte counts where a character begins
  pub column_byte : {k : ℕ} {y : Bool} → (b ≡ 10 → ⊥) → y ≡ begins_char b → k ≡ bool_byte y → Counted all s (n + k)
  unfolding pass
  column_byte {k} {y} h g f = (omega (arith, c.0, size), omega (arith, c.1, more))
    where
      p : Position
      p = behind s

      go : (x : Bool) → (if x then record { line = p.line; column = p.column + 1 } else p).column ≡ p.column + bool_byte x
      go true = refl
      go false = omega arith

      more : (behind r).column ≡ p.column + k
      more = rw (e, behind_push s b, ne_eqb b 10 h, f, g) (go (begins_char b))

      size : length s + k ≤ length r
      size = omega (arith, one_most y, ap length e ∙ length-append s (b ∷ []))

pub column_done : (all r : List ℕ) (n : ℕ) → length r ≡ 0 → Counted all r n → n ≡ (behind all).column
unfolding position_of
column_done all [] n e c = omega (arith, c.1)
column_done all (b ∷ r) n e c = absurd (omega arith)

-- ---- an offset past the end counts as the end

pub cut : (s : List ℕ) (offset k : ℕ) → k ≡ min offset (length s) → behind (take k s) ≡ position_of s offset
unfolding position_of
cut s offset k e = behind_is (take k s) ∙ ap (foldl pass start) (go (leb offset (length s)) refl)
  where
    go : (b : Bool) → leb offset (length s) ≡ b → take k s ≡ take offset s
    go true h = let l : offset ≤ length s = leb-true _ _ h in let z : k ≡ offset = omega arith in rw z
    go false h =
        let l : length s < offset = leb-false _ _ h in
        let m : length s ≤ offset = omega arith in
        let n : length s ≤ k = omega arith in
        take_all k s n ∙ sym (take_all offset s m)
