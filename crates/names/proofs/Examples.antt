-- Examples of names, of the types that count and of the errors of lines, by computing from the text of a source; and of uses.
use Prim.Native.Nat.{ℕ}
use Prim.Native.String.{String}
use mathlib.Core.Path.{◌≡◌, refl}
use mathlib.Core.Logic.{inl, inr}
use mathlib.Core.List.{List, [], ◌∷◌}
use Rattle.records.specs.Base.{bytes}
use Rattle.records.specs.TokenKind as token
use Rattle.records.specs.ErrorKind as error
use Rattle.lex.specs.Tokens.{lexing}
use Rattle.checks.specs.Checks.{checks_of}
use Rattle.grammar.specs.Tree as tree
use Rattle.grammar.specs.Tree.{Arrow, Line}
use Rattle.grammar.specs.Rule.{Parsed, got, stop}
use Rattle.grammar.specs.Grammar.{lines}
use Rattle.grammar.proofs.Examples as grammar
use Rattle.symbols.specs.Symbols.{illegal, find_from, find}
use Rattle.names.specs.Names.{enter, names_of, first_from, first_expression, name_record, name_rows, types_of_name, types_for, line_errors, errors_from, errors_of, error_rows}
use Rattle.names.specs.Uses.{Refers, Uses}

-- where `opened` unfolds, all of these compute
unfoldable pub opened : ℕ
unfolding grammar.opened illegal find_from find enter names_of first_from first_expression name_record name_rows types_of_name types_for line_errors errors_from error_rows
opened = 0

-- the lines of a source that is read, with no jets
abbrev pub read_lines : Parsed (List Line) → List Line
read_lines (got ls ts) = ls
read_lines (stop x ts) = []

abbrev pub lines_of : String → List Line
lines_of s = read_lines (lines (checks_of []) (lexing (bytes s)).tokens)

-- ---- names

-- by first legal line, even a type line; an illegal line counts for nothing: start, length, expression, node
pub by_first_line : name_rows (lines_of "_ := a b : 1 -> 1 a := unit b := take a") ≡ (7 ∷ 1 ∷ 4 ∷ 0 ∷ []) ∷ (18 ∷ 1 ∷ 2 ∷ 0 ∷ []) ∷ []
unfolding opened
by_first_line = refl

-- ---- errors: kind, place, the line's own name

pub errors_in_order :
    error_rows (errors_of (lines_of "a := unit prim := unit a := (iden) _ : 1 -> 1 a : 1 -> 1"))
    ≡ (error.number error.illegal ∷ 10 ∷ 10 ∷ 4 ∷ []) ∷ (error.number error.repeated ∷ 29 ∷ 23 ∷ 1 ∷ [])
    ∷ (error.number error.illegal ∷ 35 ∷ 35 ∷ 1 ∷ []) ∷ []
unfolding opened
errors_in_order = refl

-- ---- types that count: those of repeated lines too, not those of absent operands

pub types_in_order : types_for (λ (a : Arrow). a.source) (lines_of "a : 1 -> 2 a := unit a := iden : 2 -> _ a : _ -> 1 b : 2 -> 2") (bytes "a") ≡ tree.one ∷ tree.two ∷ []
unfolding opened
types_in_order = refl

-- ---- uses

-- a type's name is none
pub type_unused : Uses (lines_of "main : a -> 1") (bytes "main") (bytes "a") → ⊥
unfolding opened Refers
type_unused (t, (h, r), e) = r

-- a reference inside `#{ }` is a use
pub used_inside : Uses (lines_of "main := assertl unit #{ a } a := unit") (bytes "main") (bytes "a")
unfolding opened Refers
used_inside = (record { kind = record { 0 = token.number token.symbol }; start = 24; text = bytes "a" }, ((refl, inl refl), inr refl), refl)

-- a hole is none, nor is a type's name, nor a reference in a later expression
pub hole_unused : Uses (lines_of "main := take?a : a -> a main := a") (bytes "main") (bytes "a") → ⊥
unfolding opened Refers
hole_unused (t, (h, inl (inl r)), e) = r
hole_unused (t, (h, inl (inr r)), e) = r
hole_unused (t, (h, inr r), e) = r
