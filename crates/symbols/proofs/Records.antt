-- The records of a table of names, taken whole: their words are those that are read one by one. Assumes nothing.
use Prim.Native.Nat.{ℕ, zero, suc, ◌+◌, ◌-◌, ◌*◌, ◌<◌}
use mathlib.Core.Path.{◌≡◌, refl, ◌∙◌}
use mathlib.Core.List.{List}
use native.Mathlib.Omega.{arith}
use lib.ListN.{take, drop, get_or}
use borrow.Author.Tests.{le-leb}
use Rattle.std.specs.Simd.{first_chunks}
use Rattle.std.proofs.lemmas.List.{drop-drop}
use Rattle.records.specs.Limits.{record_limit}
use Rattle.tables.specs.Tables.{record_at}
use Rattle.literals.specs.Literals.{span_text}
use Rattle.symbols.specs.Texts.{name_text}

chunk_at : (c i : ℕ) (t d : List ℕ) → i < c → get_or (first_chunks 4 c t) i d ≡ take 4 (drop (i * 4) t)
chunk_at zero i t d h = absurd (omega arith)
chunk_at (suc c) zero t d h = refl
chunk_at (suc c) (suc i) t d h =
    let z : 4 + i * 4 ≡ suc i * 4 = omega arith in
    chunk_at c i (drop 4 t) d (omega arith) ∙ rw (drop-drop (i * 4) 4 t, z)

module _ (s t : List ℕ) where
  record_is : (i : ℕ) → i < record_limit → take 4 (drop (i * 4) t) ≡ record_at 4 t (i + 1)
  unfolding record_at
  record_is i h =
      let z : i + 1 - 1 ≡ i = omega arith in
      rw (le-leb 1 (i + 1) (omega arith), le-leb (i + 1) record_limit (omega arith), z)

  -- a name's text, by the record that was taken whole
  pub record_text : (c i : ℕ) (d : List ℕ) → i < c → i < record_limit → span_text s (record { start = record { 0 = get_or (get_or (first_chunks 4 c t) i d) 0 0 }; len = get_or (get_or (first_chunks 4 c t) i d) 1 0 }) ≡ name_text s t (i + 1)
  unfolding name_text
  record_text c i d h k = rw (chunk_at c i t d h, record_is i k)
