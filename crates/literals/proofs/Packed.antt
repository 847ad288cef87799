-- The bytes of a literal, from its digits. Assumes nothing.
use Rattle.std.specs.Prelude.{if◌then◌else◌}
use Prim.Native.Nat.{ℕ, zero, suc, ◌+◌, ◌-◌, ◌*◌, ◌/◌, ◌%◌, ◌≤◌, ◌<◌}
use mathlib.Core.Bool.{Bool, true, false, ◌&&◌, and-false}
use mathlib.Core.Path.{◌≡◌, refl, ap, ◌∙◌}
use mathlib.Core.List.{List, [], ◌∷◌, ◌++◌, map}
use mathlib.Core.Logic.{⊎_elim}
use native.Mathlib.Omega.{arith}
use native.Mathlib.Nat.{add-zero, add_assoc}
use lib.Dec.{eqb, ltb, eqb-zero-suc, eqb-suc-suc}
use lib.ListN.{length, take, drop, get_or, replicate}
use lib.Seq.{drop-nil, get_or-drop}
use borrow.Author.Tests.{ltb-true, le-leb, lt-leb}
use Rattle.records.proofs.Choices.{and_left, and_right, or_cases, within_low, within_high}
use Rattle.records.specs.Base.{bytes, within}
use Rattle.records.specs.declared.Span.{Span}
use Rattle.tables.specs.Tables.{joined}
use Rattle.classes.proofs.Laws.{part_rest}
use Rattle.classes.specs.Classes.{has, word, starts, run}
use Rattle.classes.specs.declared.Class.{Class}
use Rattle.classes.specs.declared.Class.TheVariants.{Bit, LowHex}
use Rattle.literals.specs.Literals.{value_of, nibble, every, is_digits, bin_bits, hex_bits, bits_of, bits_say, packed_byte, literal_byte}
use Rattle.literals.specs.Code.{nibble_at}

-- ---- digits

every_run : (c : Class) (ds : List ℕ) → eqb (run c ds) (length ds) ≡ every c ds
unfolding every run
every_run c [] = refl
every_run c (d ∷ ds) = go (has c d) (every_run c ds)
  where
    go : (t : Bool) → eqb (run c ds) (length ds) ≡ every c ds → eqb (if t then suc (run c ds) else 0) (suc (length ds)) ≡ t && every c ds
    go true e = eqb-suc-suc (run c ds) (length ds) ∙ e
    go false e = eqb-zero-suc (length ds)

-- the digits by one run of the class
pub digits_by_run : (w : List ℕ) (c : Class) (text : List ℕ) → starts (word w) text && ltb 2 (length text) && eqb (2 + run c (drop 2 text)) (length text) ≡ is_digits w c text
unfolding is_digits
digits_by_run w c [] = simp and-false
digits_by_run w c (a ∷ []) = simp and-false
digits_by_run w c (a ∷ b ∷ ds) =
    let e : 2 + run c ds ≡ suc (suc (run c ds)) = omega arith in
    rw (e, eqb-suc-suc (suc (run c ds)) (suc (length ds)), eqb-suc-suc (run c ds) (length ds), every_run c ds)

module _ (w : List ℕ) (c : Class) (text : List ℕ) (e : is_digits w c text ≡ true) where
  pub digits_some : 2 < length text
  unfolding is_digits
  digits_some = ltb-true 2 (length text) (and_right (starts (word w) text) _ (and_left _ (every c (drop 2 text)) e))

  pub digits_every : every c (take (length text - 2) (drop 2 text)) ≡ true
  unfolding is_digits
  digits_every = rw (part_rest text 2) (and_right (starts (word w) text && ltb 2 (length text)) (every c (drop 2 text)) e)

-- what bounds the value of each digit of the class bounds that at each place
value_small : (c : Class) (m : ℕ) → ((d : ℕ) → has c d ≡ true → value_of d ≤ m) → (ds : List ℕ) (i : ℕ) → every c ds ≡ true → value_of (get_or ds i 0) ≤ m
unfolding every
value_small c m f [] i e = omega arith
value_small c m f (d ∷ ds) zero e = f d (and_left (has c d) (every c ds) e)
value_small c m f (d ∷ ds) (suc i) e = value_small c m f ds i (and_right (has c d) (every c ds) e)

pub bit_small : (ds : List ℕ) (i : ℕ) → every Bit ds ≡ true → value_of (get_or ds i 0) ≤ 1
bit_small =
    value_small Bit 1
    (λ d e.
    let l : 48 ≤ d = within_low 48 49 d e in
    let h : d ≤ 49 = within_high 48 49 d e in
    let k : d ≤ 57 = omega arith in
    rw (le-leb 48 d l, le-leb d 57 k) (omega arith))

pub hex_small : (ds : List ℕ) (i : ℕ) → every LowHex ds ≡ true → value_of (get_or ds i 0) ≤ 15
hex_small =
    value_small LowHex 15
    (λ d e.
    ⊎_elim
    (λ x.
    let h : d ≤ 57 = within_high 48 57 d x in
    rw x (omega arith))
    (λ x.
    let l : 97 ≤ d = within_low 97 102 d x in
    let h : d ≤ 102 = within_high 97 102 d x in
    let k : 57 < d = omega arith in
    rw (lt-leb d 57 k, and-false) (omega arith))
    (or_cases (within 48 57 d) (within 97 102 d) e))

-- ---- binary digits

drop_map : (n : ℕ) (ds : List ℕ) → drop n (map value_of ds) ≡ map value_of (drop n ds)
drop_map zero ds = refl
drop_map (suc n) [] = refl
drop_map (suc n) (d ∷ ds) = drop_map n ds

-- past the end the values are 0, as the padding is
first_eight : (ds : List ℕ) → bits_say (take 8 (map value_of ds ++ replicate 8 0)) ≡ 16 * nibble_at ds 0 + nibble_at ds 4
first_eight [] = refl
first_eight (a ∷ []) = omega arith
first_eight (a ∷ b ∷ []) = omega arith
first_eight (a ∷ b ∷ c ∷ []) = omega arith
first_eight (a ∷ b ∷ c ∷ d ∷ []) = omega arith
first_eight (a ∷ b ∷ c ∷ d ∷ e ∷ []) = omega arith
first_eight (a ∷ b ∷ c ∷ d ∷ e ∷ f ∷ []) = omega arith
first_eight (a ∷ b ∷ c ∷ d ∷ e ∷ f ∷ g ∷ []) = omega arith
first_eight (a ∷ b ∷ c ∷ d ∷ e ∷ f ∷ g ∷ h ∷ ds) = omega arith

nibble_drop : (ds : List ℕ) (n k : ℕ) → nibble_at (drop n ds) k ≡ nibble_at ds (n + k)
nibble_drop ds n k = simp (get_or-drop, ← add_assoc)

pub bin_packed : (ds : List ℕ) (i : ℕ) → packed_byte (bin_bits ds) i ≡ 16 * nibble_at ds (8 * i) + nibble_at ds (8 * i + 4)
unfolding bin_bits packed_byte
bin_packed ds i =
    rw (drop_map (8 * i) ds) (first_eight (drop (8 * i) ds) ∙ rw (nibble_drop ds (8 * i) 0, nibble_drop ds (8 * i) 4, add-zero))

-- ---- hex digits

hex_drop : (n : ℕ) (ds : List ℕ) → drop (4 * n) (hex_bits ds) ≡ hex_bits (drop n ds)
unfolding hex_bits joined
hex_drop zero ds = refl
hex_drop (suc n) [] = drop-nil (4 * suc n)
hex_drop (suc n) (d ∷ ds) =
    let e : 4 * suc n ≡ suc (suc (suc (suc (4 * n)))) = omega arith in
    ap (λ (k : ℕ). drop k (hex_bits (d ∷ ds))) e ∙ hex_drop n ds

nibble_says : (v : ℕ) → 8 * (v / 8) + 4 * (v / 4 % 2) + 2 * (v / 2 % 2) + v % 2 ≡ v
nibble_says v =
    let a : v ≡ 2 * (v / 2) + v % 2 = omega arith in
    let b : v / 2 ≡ 2 * (v / 4) + v / 2 % 2 = omega arith in
    let c : v / 4 ≡ 2 * (v / 8) + v / 4 % 2 = omega arith in
    omega arith

bits_say_law : (a b c d e f g h v w : ℕ) → 8 * a + 4 * b + 2 * c + d ≡ v → 8 * e + 4 * f + 2 * g + h ≡ w → bits_say (a ∷ b ∷ c ∷ d ∷ e ∷ f ∷ g ∷ h ∷ []) ≡ 16 * v + w
bits_say_law a b c d e f g h v w p q = omega arith

nibbles_say : (v w : ℕ) → bits_say (nibble v ++ nibble w) ≡ 16 * v + w
nibbles_say v w = bits_say_law _ _ _ _ _ _ _ _ v w (nibble_says v) (nibble_says w)

first_two : (ds : List ℕ) → bits_say (take 8 (hex_bits ds ++ replicate 8 0)) ≡ 16 * value_of (get_or ds 0 0) + value_of (get_or ds 1 0)
unfolding hex_bits joined
first_two [] = refl
first_two (a ∷ []) = nibbles_say (value_of a) 0
first_two (a ∷ b ∷ ds) = nibbles_say (value_of a) (value_of b)

pub hex_packed : (ds : List ℕ) (i : ℕ) → packed_byte (hex_bits ds) i ≡ 16 * value_of (get_or ds (2 * i) 0) + value_of (get_or ds (2 * i + 1) 0)
unfolding packed_byte
hex_packed ds i =
    let e : 8 * i ≡ 4 * (2 * i) = omega arith in
    rw (e, hex_drop (2 * i) ds) (first_two (drop (2 * i) ds) ∙ rw (get_or-drop (2 * i) ds 0 0, get_or-drop (2 * i) ds 1 0, add-zero))

-- ---- texts

none_packed : (i : ℕ) → packed_byte [] i ≡ 0
unfolding packed_byte
none_packed i = rw (drop-nil {A = ℕ} (8 * i))

module _ (text : List ℕ) (i : ℕ) where
  pub text_bin : is_digits (bytes "0b") Bit text ≡ true → packed_byte (bits_of text) i ≡ packed_byte (bin_bits (take (length text - 2) (drop 2 text))) i
  unfolding bits_of
  text_bin e = rw (e, part_rest text 2)

  pub text_hex : is_digits (bytes "0b") Bit text ≡ false → is_digits (bytes "0x") LowHex text ≡ true → packed_byte (bits_of text) i ≡ packed_byte (hex_bits (take (length text - 2) (drop 2 text))) i
  unfolding bits_of
  text_hex n e = rw (n, e, part_rest text 2)

  pub text_none : is_digits (bytes "0b") Bit text ≡ false → is_digits (bytes "0x") LowHex text ≡ false → packed_byte (bits_of text) i ≡ 0
  unfolding bits_of
  text_none n e = rw (n, e) (none_packed i)

module _ (source : List ℕ) (s : Span) (i : ℕ) where
  pub span_outside : length source < s.start.0 + s.len → literal_byte source s i ≡ 0
  unfolding literal_byte bits_of is_digits starts
  span_outside h = rw (lt-leb (s.start.0 + s.len) (length source) h) (none_packed i)

  pub span_inside : s.start.0 + s.len ≤ length source → literal_byte source s i ≡ packed_byte (bits_of (take (s.start.0 + s.len - s.start.0) (drop s.start.0 source))) i
  unfolding literal_byte
  span_inside h = let e : s.start.0 + s.len - s.start.0 ≡ s.len = omega arith in rw (le-leb (s.start.0 + s.len) (length source) h, e)
