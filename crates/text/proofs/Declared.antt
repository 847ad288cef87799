-- What `check_text` computes is what RFC 3629's grammar declares: the answer is right (`check_right`), and it is the only right
-- one (`right_once`). Assumes nothing.
use Rattle.std.specs.Prelude.{if◌then◌else◌, Err, Ok, Result}
use Prim.Native.Nat.{ℕ, zero, suc, ◌+◌, ◌-◌, ◌≤◌, ◌<◌}
use mathlib.Core.Path.{◌≡◌, refl, sym, ap, ◌∙◌}
use mathlib.Core.List.{List, [], ◌∷◌, ◌++◌, append_assoc}
use mathlib.Core.Logic.{◌⊎◌, inl, inr, ⊎_elim}
use native.Mathlib.Omega.{arith}
use native.Mathlib.Nat.{le_antisymm, zero-add}
use lib.Dec.{eqb, eqb-suc-zero}
use lib.ListN.{length, take, drop, length-append, take-append-drop, length-drop}
use lib.Seq.{drop-append_seam, length-take-le, take-length, take_at, take-add}
use Rattle.text.specs.Utf8.{rules, Char, Utf8, none, more, BadPlace}
use Rattle.text.specs.Check.{bad_at, Right, length_by, char_len, check_from, check_text}
use Rattle.text.proofs.Chars.{Found, length_char, char_length, rules_separate}
use Rattle.text.proofs.Laws.{check_one}
use Rattle.text.specs.declared.TextError.{TextError}

-- there is only one right answer
pub right_once : (s : List ℕ) (a b : Result (Unit {0}) TextError) → Right s a → Right s b → a ≡ b
right_once s (Ok _) (Ok _) h k = refl
right_once s (Ok _) (Err n) h k =
    let m : length s ≤ n.at = k.longest (length s) (omega arith) (rw take-length h) in
    absurd (omega (arith, k.inside))
right_once s (Err n) (Ok _) k h =
    let m : length s ≤ n.at = k.longest (length s) (omega arith) (rw take-length h) in
    absurd (omega (arith, k.inside))
right_once s (Err n) (Err m) h k =
    ap bad_at (le_antisymm (k.longest n.at (omega (arith, h.inside)) h.good) (h.longest m.at (omega (arith, k.inside)) k.good))

-- a well-formed front that is not empty begins with the character that is found
front : {u : List ℕ} (m : ℕ) (s : List ℕ) → Utf8 u → take m s ≡ u → m ≤ length s → (m ≡ 0) ⊎ ((0 < char_len s) × (char_len s ≤ m) × Utf8 (take (m - char_len s) (drop (char_len s) s)))
unfolding char_len
front m s none e h = inl (sym (length-take-le m s h) ∙ ap length e)
front m s (more {c} {t} k u) e h =
    let w : s ≡ c ++ (t ++ drop m s) = sym (take-append-drop m s) ∙ ap (λ (x : List ℕ). x ++ drop m s) e ∙ append_assoc c t _ in
    let l = char_length (t ++ drop m s) k rules_separate in
    let n : length_by rules s ≡ length c = ap (length_by rules) w ∙ l.0 in
    let len : m ≡ length c + length t = sym (length-take-le m s h) ∙ ap length e ∙ length-append c t in
    let d : drop (length c) s ≡ t ++ drop m s = ap (drop (length c)) w ∙ drop-append_seam c _ in
    let v : take (m - length c) (drop (length c) s) ≡ t = ap (take (m - length c)) d ∙ take_at t (drop m s) (m - length c) (omega arith) in
    inr (rw n l.1, rw n (omega arith), rw (n, v) u)

-- the answer for a text that stands at an offset
abbrev RightAt : ℕ → List ℕ → Result (Unit {0}) TextError → Type 0
RightAt at s (Ok _) = Utf8 s
RightAt at s (Err n) = (j : ℕ) × (n.at ≡ at + j) × BadPlace s j

-- a character of n bytes and then an answer for the rest
carry : (at n : ℕ) (s : List ℕ) → char_len s ≡ n → Char rules (take n s) → n ≤ length s → (a : Result (Unit {0}) TextError) → RightAt (at + n) (drop n s) a → RightAt at s a
carry at n s e ch le (Ok _) u = rw take-append-drop at (more ch u)
carry at n s e ch le (Err m) r =
    let p = r.2 in
    let j = r.0 in (
      n + j,
      r.1 ∙ omega arith,
      record {
        inside = omega (arith, simp length-drop at p.inside);
        good = rw (take-add n j s) (more ch p.good);
        longest = λ m hm u.
            ⊎_elim
            (λ z. omega arith)
            (λ x.
            let y : m - n ≤ j = p.longest (m - n) (simp length-drop (omega arith)) (rw e at x.2) in
            omega arith)
            (front m s u refl hm);
      },
    )

right_step : (at n : ℕ) (s : List ℕ) → 0 < length s → char_len s ≡ n → Found rules s n → (0 < n → RightAt (at + n) (drop n s) (check_from (at + n) 0 (drop n s))) → RightAt at s (if eqb n 0 then bad_at at else check_from (at + n) 0 (drop n s))
right_step at zero s h e f r = (
  0,
  omega arith,
  record {
    inside = h;
    good = none;
    longest = λ m hm u. ⊎_elim (λ z. omega arith) (λ x. absurd (omega (arith, e))) (front m s u refl hm);
  },
)
right_step at (suc n) s h e (inl z) r = absurd (omega arith)
right_step at (suc n) s h e (inr c) r = rw (eqb-suc-zero n) (carry at (suc n) s e c.0 c.1 (check_from (at + suc n) 0 (drop (suc n) s)) (r (omega arith)))

right_at : (f at : ℕ) (s : List ℕ) → length s ≤ f → RightAt at s (check_from at 0 s)
unfolding check_from char_len
right_at zero at [] h = none
right_at zero at (b ∷ t) h = absurd (omega arith)
right_at (suc f) at [] h = none
right_at (suc f) at (b ∷ t) h =
    rw (check_one at (b ∷ t) (omega arith))
    (right_step at (char_len (b ∷ t)) (b ∷ t) (omega arith) refl (length_char rules (b ∷ t))
    (λ p. right_at f (at + char_len (b ∷ t)) (drop (char_len (b ∷ t)) (b ∷ t)) (simp length-drop (omega arith))))

-- what is computed is right
pub check_right : (s : List ℕ) → Right s (check_text s)
check_right s = go (check_from 0 0 s) (right_at (length s) 0 s (omega arith))
  where
    go : (a : Result (Unit {0}) TextError) → RightAt 0 s a → Right s a
    go (Ok _) u = u
    go (Err n) (j, e, p) = rw (e, zero-add) p
