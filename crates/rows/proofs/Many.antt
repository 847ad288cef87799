-- Rows put one by one, and names counted one by one. Assumes nothing.
use Rattle.std.specs.Prelude.{if◌then◌else◌}
use Prim.Native.Nat.{ℕ, suc, ◌+◌, ◌-◌, ◌≤◌, ◌<◌}
use mathlib.Core.Bool.{Bool, true, false}
use mathlib.Core.Path.{◌≡◌, sym, ◌∙◌}
use mathlib.Core.List.{List}
use native.Mathlib.Omega.{arith}
use native.Mathlib.Numerals.{add-one}
use Rattle.print.specs.declared.Output.{Output}
use Rattle.print.specs.Text.{Adds}
use Rattle.print.proofs.Putting.{adds_nothing}
use Rattle.rows.specs.Words.{◌then◌, Room, rows_from, count_from}
use Rattle.rows.proofs.Pieces.{first_fits, rest_fits, adds_then, same_adds, same_fits}

-- ---- rows

-- Of the rows 1 to n those before i are put: what is left has room, and put into the output as it is now, gives the whole.
pub record RowsLeft (f : ℕ → List ℕ) (n : ℕ) (old : Output) (i : ℕ) (now : Output) : Type 0 where
  pub room : Room now (rows_from f (suc n - i) i)
  pub gives : (new : Output) → Adds (rows_from f (suc n - i) i) now new → Adds (rows_from f n 1) old new

-- one row, and those behind it
next_row : (f : ℕ → List ℕ) (n i : ℕ) → i ≤ n → rows_from f (suc n - i) i ≡ f i then rows_from f (suc n - (i + 1)) (i + 1)
unfolding rows_from
next_row f n i h =
    let e : suc n - i ≡ suc (suc n - (i + 1)) = omega arith in
    rw (e, add-one i)

module _ {f : ℕ → List ℕ} {n : ℕ} where
  pub rows_none : {old : Output} → Room old (rows_from f n 1) → RowsLeft f n old 1 old
  rows_none h =
      let e : suc n - 1 ≡ n = omega arith in
      record { room = rw e h; gives = λ new p. rw e at p }

  module _ {old now : Output} {i : ℕ} (left : RowsLeft f n old i now) where
    pub rows_next : i ≤ n → Room now (f i)
    rows_next h = first_fits _ (same_fits (next_row f n i h) left.room)

    pub rows_more : {new : Output} → i ≤ n → Adds (f i) now new → RowsLeft f n old (i + 1) new
    rows_more h p = record {
      room = rest_fits p (same_fits (next_row f n i h) left.room);
      gives = λ last q. left.gives last (same_adds (next_row f n i h) (adds_then p q));
    }

    pub rows_done : n < i → Adds (rows_from f n 1) old now
    unfolding rows_from
    rows_done h =
        let e : suc n - i ≡ 0 = omega arith in
        left.gives now (rw e (adds_nothing now))

-- ---- counting

-- Of the numbers 1 to n those before i are looked at, and so many passed the test.
pub record CountLeft (test : ℕ → Bool) (n i count : ℕ) : Type 0 where
  pub few : count < i
  pub sum : count_from test n 1 ≡ count + count_from test (suc n - i) i

next_count : (test : ℕ → Bool) (n i : ℕ) → i ≤ n → count_from test (suc n - i) i ≡ (if test i then 1 else 0) + count_from test (suc n - (i + 1)) (i + 1)
unfolding count_from
next_count test n i h =
    let e : suc n - i ≡ suc (suc n - (i + 1)) = omega arith in
    rw (e, add-one i)

module _ {test : ℕ → Bool} {n i count : ℕ} (left : CountLeft test n i count) where
  -- number i passes,
  pub count_one : {b : Bool} → i ≤ n → b ≡ test i → b ≡ true → CountLeft test n (i + 1) (count + 1)
  count_one h e y = record { few = omega (arith, left.few); sum = left.sum ∙ rw (next_count test n i h, sym e ∙ y) (omega arith) }

  -- or it does not,
  pub count_same : {b : Bool} → i ≤ n → b ≡ test i → b ≡ false → CountLeft test n (i + 1) count
  count_same h e y = record { few = omega (arith, left.few); sum = left.sum ∙ rw (next_count test n i h, sym e ∙ y) (omega arith) }

  -- or none is left
  pub count_done : n < i → count ≡ count_from test n 1
  unfolding count_from
  count_done h =
      let e : suc n - i ≡ 0 = omega arith in
      sym (left.sum ∙ rw e (omega arith))
