-- A word of any record of a table: a record that is not used reads as 0.
use Prim.Native.Nat.{ℕ, suc, ◌≤◌}
use mathlib.Core.Bool.{Bool, true, false}
use mathlib.Core.Path.{◌≡◌, refl}
use mathlib.Core.List.{List, []}
use native.Mathlib.Omega.{arith}
use native.Mathlib.Numerals.{add-one}
use lib.Dec.{ltb}
use lib.ListN.{length, get_or, get_or-eq_default}
use borrow.Author.Tests.{ltb-true, ltb-false, le-leb, lt-leb}
use Rattle.records.specs.Base.{within}
use Rattle.records.specs.Limits.{record_limit}
use Rattle.tables.specs.Tables.{table_of, word_at}
use Rattle.tables.proofs.Words.{word_none}
use Rattle.tables.proofs.Laws.{Wide, table_word, table_unused}

pub table_reads : (w : ℕ) (old : List ℕ) {rs : List (List ℕ)} → Wide w rs → length rs ≤ record_limit → (i j : ℕ) → word_at w (table_of w rs old) (suc i) j ≡ get_or (get_or rs i []) j 0
table_reads w old {rs} wide few i j = go (ltb i (length rs)) refl (ltb i record_limit) refl
  where
    go : (a : Bool) → ltb i (length rs) ≡ a → (b : Bool) → ltb i record_limit ≡ b → word_at w (table_of w rs old) (suc i) j ≡ get_or (get_or rs i []) j 0
    go true e b f = rw (← add-one i) (table_word w old wide few i j (ltb-true _ _ e))
    go false e true f = rw (get_or-eq_default rs [] {n = i} (ltb-false _ _ e), ← add-one i) (table_unused w old wide few i j (ltb-false _ _ e) (ltb-true _ _ f))
    go false e false f =
        let past : within 1 record_limit (suc i) ≡ false = rw (le-leb 1 (suc i) (omega arith), lt-leb (suc i) record_limit (omega (arith, ltb-false i record_limit f))) in
        rw (get_or-eq_default rs [] {n = i} (ltb-false _ _ e)) (word_none w (table_of w rs old) (suc i) j past)
