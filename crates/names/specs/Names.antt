-- Document 01, Names and nodes, by text: the names of a program, the expression and the types that count for each, and the
-- errors of lines. The Rust's step 1.
use Rattle.std.specs.Prelude.{ℕ, ◌+◌, eqb, if◌then◌else◌}
use mathlib.Core.List.{List, [], ◌∷◌, ◌++◌, map, foldl}
use Rattle.std.proofs.Math.Option
use Rattle.std.proofs.Math.Option.{Option, none, some}
use Rattle.records.specs.ErrorKind as error
use Rattle.records.specs.Records.{name_words, error_words}
use Rattle.records.specs.declared.Span.{Span}
use Rattle.records.specs.declared.NameRecord.{NameRecord}
use Rattle.records.specs.declared.ErrorRecord.{ErrorRecord}
use Rattle.lex.specs.Tokens.{Token}
use Rattle.checks.specs.Jets.{same}
use Rattle.grammar.specs.Tree.{Expr, Ty, present, Arrow, Line, types_of}
use Rattle.grammar.specs.Part as part
use Rattle.grammar.specs.Part.{Part, part_of, span_of}
use Rattle.grammar.specs.Recorded.{part_no, exprs_of}
use Rattle.symbols.specs.Symbols.{Text, illegal, find}

-- ---- names, each by the token where it stands in its first legal line, even a type line

-- the names after one line more: its name is new if it is legal and not there yet
unfoldable pub enter : List Token → Line → List Token
enter ns l =
    if illegal l.name.text then ns
    else if eqb (find ns l.name.text) 0 then ns ++ (l.name ∷ [])
    else ns

-- the names in the order of their first legal lines
unfoldable pub names_of : List Line → List Token
names_of ls = foldl enter [] ls

-- ---- a name's first expression counts

-- an expression, and how many records of expressions stand before its own
pub record Placed : Type 0 where
  pub before : ℕ
  pub expression : Expr

abbrev pub placed : (before : ℕ) → Option Expr → Option Placed
placed e none = none
placed e (some x) = some (record { before = e; expression = x })

-- the first, or if there is none the later
abbrev pub or_else : Option Placed → Option Placed → Option Placed
or_else none later = later
or_else (some p) later = some p

-- the first expression of the lines that have this name; so many records stand before the lines' own
unfoldable pub first_from : (before : ℕ) → List Line → (name : Text) → Option Placed
first_from e [] x = none
first_from e (l ∷ ls) x =
    let later : Option Placed = first_from (e + exprs_of l) ls x in
    let here : Option Placed = or_else (placed e l.expression) later in
    if same l.name.text x then here else later

unfoldable pub first_expression : List Line → (name : Text) → Option Expr
first_expression ls x = Option.map (λ (p : Placed). p.expression) (first_from 0 ls x)

-- the number of its record, which is the last of its own; 0 if there is none
abbrev pub number_of : Option Placed → ℕ
number_of none = 0
number_of (some p) = part_no (part_of p.expression) p.before

-- start, length, expression, node; `node` is the number of the name's node, 0 before the walk
unfoldable pub name_record : List Line → (node : ℕ) → (name : Token) → NameRecord
name_record ls i x =
    record { span = span_of x; expr = record { 0 = number_of (first_from 0 ls x.text) }; node = record { 0 = i } }

-- the rows of the names before the walk
unfoldable pub name_rows : List Line → List (List ℕ)
name_rows ls = map (λ (x : Token). name_words (name_record ls 0 x)) (names_of ls)

-- ---- the types that count for a name

abbrev if_present : Ty → List Ty
if_present t = if present t then t ∷ [] else []

-- the present types of the lines that have this name
unfoldable pub types_of_name : (side : Arrow → Ty) → List Line → (name : Text) → List Ty
types_of_name side [] x = []
types_of_name side (l ∷ ls) x =
    let later : List Ty = types_of_name side ls x in
    if same l.name.text x then if_present (side (types_of l)) ++ later else later

-- The present types of all the name's legal lines, in line order, those of repeated lines too; `side` takes an arrow's source
-- or its target.
unfoldable pub types_for : (side : Arrow → Ty) → List Line → (name : Text) → List Ty
types_for side ls x = if illegal x then [] else types_of_name side ls x

-- ---- the errors of lines, in line order

-- kind, place and name
pub record Error : Type 0 where
  pub kind : error.Kind
  pub start : ℕ
  pub name : Span

abbrev pub error_record : Error → ErrorRecord
error_record e = record { kind = record { 0 = error.number e.kind }; start = record { 0 = e.start }; name = e.name }

-- where an expression stands
abbrev pub part_place : Part → ℕ
part_place part.none = 0
part_place (part.part k at s l r) = at
part_place (part.refer x) = x.start

-- an expression after the name's first one gives a repeated-name error at that expression's place
abbrev pub repeated : (first later : Option Expr) → (name : Token) → List Error
repeated none later x = []
repeated (some d) none x = []
repeated (some d) (some e) x = record { kind = error.repeated; start = part_place (part_of e); name = span_of x } ∷ []

-- an illegal line gives an illegal-name error at its name; `before` are the lines before
unfoldable pub line_errors : (before : List Line) → Line → List Error
line_errors before l =
    if illegal l.name.text then record { kind = error.illegal; start = l.name.start; name = span_of l.name } ∷ []
    else repeated (first_expression before l.name.text) l.expression l.name

-- the errors of these lines, which stand behind those
unfoldable pub errors_from : (before : List Line) → List Line → List Error
errors_from before [] = []
errors_from before (l ∷ ls) = line_errors before l ++ errors_from (before ++ (l ∷ [])) ls

abbrev pub errors_of : List Line → List Error
errors_of ls = errors_from [] ls

unfoldable pub error_rows : List Error → List (List ℕ)
error_rows es = map (λ (e : Error). error_words (error_record e)) es
