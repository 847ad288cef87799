-- Laws of `filled`, over a variable width: one run of records behind another, that a filled table is `table_of` of the records, and
-- that the words past the records stay. Later layers cite these and not the definition. Assumes nothing.
use Rattle.std.specs.Prelude.{if◌then◌else◌}
use Prim.Native.Nat.{ℕ, suc, ◌+◌, ◌*◌, ◌-◌, ◌≤◌}
use mathlib.Core.Bool.{Bool, true, false}
use mathlib.Core.Path.{◌≡◌, refl, sym, ap, ◌∙◌}
use mathlib.Core.List.{List, [], ◌∷◌, ◌++◌, append_assoc, append-nil}
use native.Mathlib.Omega.{arith}
use native.Mathlib.Nat.{mul-le-mul_right, suc-mul, add-zero}
use lib.ListN.{length, take, drop, set, length-append, length-take}
use lib.Seq.{sets, drop-set-lt}
use Rattle.records.specs.Base.{within}
use Rattle.records.specs.Limits.{record_limit}
use Rattle.records.proofs.Choices.{within_low, within_high}
use Rattle.tables.specs.Tables.{table_of, written, filled, beyond}
use Rattle.tables.proofs.Laws.{Wide, none, more, wide_append, table_append}

module _ (w : ℕ) where
  -- one run of records behind another
  pub filled_append : (t : List ℕ) (m : ℕ) (rs qs : List (List ℕ)) → filled w t m (rs ++ qs) ≡ filled w (filled w t m rs) (m + length rs) qs
  unfolding filled
  filled_append t m [] qs = rw add-zero
  filled_append t m (r ∷ rs) qs = let z : m + 1 + length rs ≡ m + suc (length rs) = omega arith in filled_append (written w t (m + 1) r) (m + 1) rs qs ∙ rw z

  -- one run of k records behind another, as two steps leave them
  pub filled_then : (t : List ℕ) (m : ℕ) (rs qs : List (List ℕ)) {k : ℕ} {mid new : List ℕ} → length rs ≡ k → mid ≡ filled w t m rs → new ≡ filled w mid (m + k) qs → new ≡ filled w t m (rs ++ qs)
  filled_then t m rs qs {k} {mid} {new} l e f =
      f ∙ ap (λ (j : ℕ). filled w mid (m + j) qs) (sym l) ∙ ap (λ (x : List ℕ). filled w x (m + length rs) qs) e ∙ sym (filled_append t m rs qs)

  -- one record more
  pub filled_one : (t : List ℕ) (m : ℕ) (r : List ℕ) → filled w t m (r ∷ []) ≡ written w t (m + 1) r
  unfolding filled
  filled_one t m r = refl

  -- a table of records that is filled on is the table of all
  pub filled_table : (old : List ℕ) {fs qs : List (List ℕ)} → Wide w fs → Wide w qs → length fs + length qs ≤ record_limit → filled w (table_of w fs old) (length fs) qs ≡ table_of w (fs ++ qs) old
  unfolding filled
  filled_table old {fs} h none k = rw append-nil
  filled_table old {fs} h (more {r} {rs} e i) k =
      let n : length (fs ++ (r ∷ [])) ≡ length fs + 1 = length-append fs (r ∷ []) in
      let one : written w (table_of w fs old) (length fs + 1) r ≡ table_of w (fs ++ (r ∷ [])) old = table_append w old h (omega arith) r (omega arith) e in
      let rest : filled w (table_of w (fs ++ (r ∷ [])) old) (length (fs ++ (r ∷ []))) rs ≡ table_of w ((fs ++ (r ∷ [])) ++ rs) old =
      filled_table old (wide_append h (more e none)) i (omega arith) in
      rw (one, ← n, rest, append_assoc)

  -- ---- the words past the records

  sets_beyond : (n i : ℕ) (vs t : List ℕ) → i + length vs ≤ n → drop n (sets t i vs) ≡ drop n t
  sets_beyond n i [] t h = refl
  sets_beyond n i (v ∷ vs) t h = sets_beyond n (suc i) vs (set t i v) (omega arith) ∙ drop-set-lt n t i v (omega arith)

  written_beyond : (t : List ℕ) (n : ℕ) (ws : List ℕ) → beyond w (written w t n ws) ≡ beyond w t
  unfolding written
  written_beyond t n ws = go (within 1 record_limit n) refl
    where
      inside : 1 ≤ n → n ≤ record_limit → (n - 1) * w + length (take w ws) ≤ record_limit * w
      inside l h =
          let s : suc (n - 1) ≡ n = omega arith in
          let m : suc (n - 1) * w ≤ record_limit * w = mul-le-mul_right w (omega arith) in
          omega (arith, suc-mul (n - 1) w, length-take w ws)

      go : (b : Bool) → within 1 record_limit n ≡ b → drop (record_limit * w) (if b then sets t ((n - 1) * w) (take w ws) else t) ≡ drop (record_limit * w) t
      go true e = sets_beyond (record_limit * w) ((n - 1) * w) (take w ws) t (inside (within_low 1 record_limit n e) (within_high 1 record_limit n e))
      go false e = refl

  pub filled_beyond : (t : List ℕ) (m : ℕ) (rs : List (List ℕ)) → beyond w (filled w t m rs) ≡ beyond w t
  unfolding filled
  filled_beyond t m [] = refl
  filled_beyond t m (r ∷ rs) = filled_beyond (written w t (m + 1) r) (m + 1) rs ∙ written_beyond t (m + 1) r

  -- tables with the same words past the records are cleared alike
  pub table_beyond : (rs : List (List ℕ)) (new old : List ℕ) → beyond w new ≡ beyond w old → table_of w rs new ≡ table_of w rs old
  unfolding table_of
  table_beyond rs new old e = rw e
