-- Small words that every page uses. Nothing here is of document 01.
use Rattle.std.specs.Prelude.{ℕ, Bool, ◌&&◌, List, [], ◌∷◌, leb}
use Prim.Native.Char.{code}
use Prim.Native.String.{String, [] as none, ◌∷◌ as put}

-- lo ≤ n ≤ hi
abbrev pub within : (lo hi n : ℕ) → Bool
within lo hi n = leb lo n && leb n hi

-- the bytes of a quoted ASCII text
abbrev pub bytes : String → List ℕ
bytes none = []
bytes (put c s) = code c ∷ bytes s
