-- What the functions on lent words need of the definitions. Assumes nothing.
use Prim.Native.Nat.{ℕ, suc, min, ◌+◌, ◌*◌, ◌-◌, ◌≤◌, ◌<◌}
use mathlib.Core.Bool.{Bool, true, false}
use mathlib.Core.Path.{◌≡◌, refl, sym, ◌∙◌}
use mathlib.Core.List.{List}
use native.Mathlib.Omega.{arith}
use native.Mathlib.Numerals.{add-one}
use native.Mathlib.Nat.{add-zero}
use lib.Dec.{leb}
use borrow.Author.Tests.{leb-true, leb-false}
use lib.ListN.{length, get_or, take, drop, set, length-take, drop_of_length-le, get_or-eq_default}
use lib.Seq.{sets, drop-cons, get_or-take, get_or-drop, set_out, take_all, take-length}
use Rattle.records.specs.Base.{within}
use Rattle.records.specs.Limits.{record_limit}
use Rattle.tables.specs.Tables.{record_at, word_at, written}

-- ---- reading

module _ (w : ℕ) (t : List ℕ) (n j : ℕ) where
  pub word_none : within 1 record_limit n ≡ false → word_at w t n j ≡ 0
  unfolding record_at
  word_none e = rw e

  pub word_past : within 1 record_limit n ≡ true → w ≤ j → word_at w t n j ≡ 0
  unfolding record_at
  word_past e h = rw e (get_or-eq_default (take w (drop ((n - 1) * w) t)) 0 {n = j} (simp length-take (omega arith)))

  pub word_here : (i p r : ℕ) → within 1 record_limit n ≡ true → j < w → i ≡ (n - 1) * w → p ≡ j → r ≡ get_or t (i + p) 0 → r ≡ word_at w t n j
  unfolding record_at
  word_here i p r e h ei ep er = er ∙ rw (ei, ep, e) (sym (get_or-take w (drop ((n - 1) * w) t) j 0 h ∙ get_or-drop ((n - 1) * w) t j 0))

-- ---- writing

take_min : (w : ℕ) (ws : List ℕ) → take w ws ≡ take (min w (length ws)) ws
take_min w ws = go (leb w (length ws)) refl
  where
    go : (b : Bool) → leb w (length ws) ≡ b → take w ws ≡ take (min w (length ws)) ws
    go true e =
        let h : w ≤ length ws = leb-true _ _ e in
        let m : min w (length ws) ≡ w = omega arith in
        rw m
    go false e =
        let h : length ws < w = leb-false _ _ e in
        let m : min w (length ws) ≡ length ws = omega arith in
        rw m (take_all w ws (omega arith) ∙ sym (take-length ws))

module _ (w : ℕ) (t : List ℕ) (n : ℕ) (ws : List ℕ) where
  pub written_none : within 1 record_limit n ≡ false → written w t n ws ≡ t
  unfolding written
  written_none e = rw e

  pub written_here : (at k : ℕ) (new : List ℕ) → within 1 record_limit n ≡ true → at ≡ (n - 1) * w → k ≡ min w (length ws) → new ≡ sets t at (take k ws) → new ≡ written w t n ws
  unfolding written
  written_here at k new e ea ek en = en ∙ rw (e, ea, ek, ← take_min w ws)

-- storing words one by one: t is the table now, t₀ what it was
module _ {A : Type 0} (t₀ ws : List A) (at : ℕ) where
  pub Storing : (t : List A) (j : ℕ) → Type 0
  Storing t j = sets t₀ at ws ≡ sets t (at + j) (drop j ws)

  pub storing_none : Storing t₀ 0
  unfolding Storing
  storing_none = rw add-zero

  pub storing_more : (t new : List A) (j : ℕ) (x : A) → j < length ws → x ≡ get_or ws j x → new ≡ set t (at + j) x → Storing t j → Storing new (j + 1)
  unfolding Storing
  storing_more t new j x k ex e s =
      let z : at + suc j ≡ suc (at + j) = omega arith in
      s ∙ rw (drop-cons ws j x k, ← ex, e, add-one j, z)

  -- past the end nothing is stored
  pub storing_out : (t new : List A) (j : ℕ) (x : A) → j < length ws → x ≡ get_or ws j x → length t ≤ at + j → new ≡ t → Storing t j → Storing new (j + 1)
  storing_out t new j x k ex h e = storing_more t new j x k ex (e ∙ sym (set_out t (at + j) x h))

  pub storing_done : (t : List A) (j : ℕ) → length ws ≤ j → Storing t j → t ≡ sets t₀ at ws
  unfolding Storing
  storing_done t j k s = sym (s ∙ rw (drop_of_length-le ws k))
