-- A part of the source as a span has the span's text.
use Rattle.std.specs.Prelude.{if◌then◌else◌}
use Prim.Native.Nat.{ℕ, ◌+◌}
use mathlib.Core.Bool.{Bool, true, false}
use mathlib.Core.Path.{◌≡◌, refl}
use mathlib.Core.List.{List, []}
use native.Mathlib.Omega.{arith}
use borrow.Author.Tests.{le-leb}
use lib.Dec.{leb}
use lib.ListN.{length}
use Rattle.records.specs.Records.{no_span}
use Rattle.records.specs.declared.Span.{Span}
use Rattle.literals.specs.Literals.{span_text}
use Rattle.access.specs.Access.{part_in, name_span, name_text_of}

pub part_text : (source : List ℕ) (s : Span) → span_text source (part_in (length source) s) ≡ span_text source s
unfolding part_in
part_text source s = go (leb (s.start.0 + s.len) (length source)) refl
  where
    none : span_text source no_span ≡ []
    none = rw (le-leb 0 (length source) (omega arith))

    go : (b : Bool) → leb (s.start.0 + s.len) (length source) ≡ b → span_text source (if b then s else no_span) ≡ span_text source s
    go true e = refl
    go false e = rw e none

-- the part of a name, over C a span, is the text of the name
pub name_part_text : (source names : List ℕ) (count n : ℕ) → span_text source (part_in (length source) (name_span names count n)) ≡ name_text_of source names count n
unfolding name_text_of
name_part_text source names count n = part_text source (name_span names count n)
