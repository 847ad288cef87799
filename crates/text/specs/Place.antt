-- Document 01, Tokens: line and column start at 1; the column counts characters that begin before the offset, and LF
-- starts a line.
use Rattle.std.specs.Prelude.{ℕ, ◌+◌, Bool, not, take, eqb, if◌then◌else◌}
use mathlib.Core.List.{List, foldl}
use Rattle.records.specs.Base.{within}
use Rattle.text.specs.declared.Position.{Position}

-- a character begins at every byte outside 128 to 191
abbrev pub begins_char : ℕ → Bool
begins_char b = not (within 128 191 b)

-- the place behind the byte b
unfoldable pub pass : Position → ℕ → Position
pass p b =
    if eqb b 10 then record { line = p.line + 1; column = 1 }
    else if begins_char b then record { line = p.line; column = p.column + 1 }
    else p

-- an offset past the end counts as the end, since `take` stops there
unfoldable pub position_of : (source : List ℕ) → (offset : ℕ) → Position
position_of source offset = foldl pass (record { line = 1; column = 1 }) (take offset source)
