-- The errors of a program, by computing from the text of a source.
use Prim.Native.Nat.{ℕ}
use mathlib.Core.Path.{◌≡◌, refl}
use mathlib.Core.List.{[], ◌∷◌}
use Rattle.records.specs.ErrorKind as error
use Rattle.names.specs.Names.{error_rows}
use Rattle.names.proofs.Examples.{lines_of}
use Rattle.walk.proofs.Examples as walk
use Rattle.errors.specs.Errors.{node_errors, all_errors}

-- where `opened` unfolds, all of these compute
unfoldable pub opened : ℕ
unfolding walk.opened node_errors all_errors
opened = 0

-- Kind, place, name: those of lines first, then those of nodes in node order. The missing node of `a` stands at the name's place, and
-- its error's name is the name used.
pub errors_in_order :
    error_rows (all_errors (lines_of "prim := unit main := pair a nosuch a := a b : 1 -> 1 main := iden"))
    ≡ (error.number error.illegal ∷ 0 ∷ 0 ∷ 4 ∷ []) ∷ (error.number error.repeated ∷ 61 ∷ 53 ∷ 4 ∷ []) ∷ (error.number error.missing ∷ 28 ∷ 28 ∷ 6 ∷ [])
    ∷ (error.number error.missing ∷ 35 ∷ 40 ∷ 1 ∷ []) ∷ (error.number error.incomplete ∷ 42 ∷ 42 ∷ 1 ∷ []) ∷ []
unfolding opened
errors_in_order = refl
