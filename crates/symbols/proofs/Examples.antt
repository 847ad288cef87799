-- Examples of illegal names, by computing. Assumes nothing.
use Prim.Native.String.{String}
use mathlib.Core.Bool.{true, false}
use mathlib.Core.Path.{◌≡◌, refl}
use mathlib.Core.List.{[], ◌∷◌, map}
use Rattle.records.specs.Base.{bytes}
use Rattle.classes.specs.Classes.{starts}
use Rattle.checks.specs.Jets.{same}
use Rattle.symbols.specs.Symbols.{illegal}

pub illegals : map (λ (s : String). illegal (bytes s)) ("_" ∷ "prim" ∷ "primary" ∷ "Prim" ∷ "pri" ∷ "_prim" ∷ []) ≡ true ∷ true ∷ true ∷ false ∷ false ∷ false ∷ []
unfolding illegal same starts
illegals = refl
