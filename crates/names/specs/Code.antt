-- What the steps of the code answer for any words: what a line does to the tables of names and errors. Nothing here is of
-- document 01; proofs/Entering.antt shows that it gives the names and errors of the lines.
use Rattle.std.specs.Prelude.{ℕ, ◌≡◌, List, eqb, if◌then◌else◌}
use Rattle.records.specs.Limits.{line_width, expr_width, name_width, error_width}
use Rattle.records.specs.Records.{name_words, error_words}
use Rattle.records.specs.ErrorKind as error
use Rattle.records.specs.declared.Span.{Span}
use Rattle.records.specs.declared.NameRecord.{NameRecord}
use Rattle.records.specs.declared.ErrorRecord.{ErrorRecord}
use Rattle.tables.specs.Tables.{word_at, written, span_at}
use Rattle.literals.specs.Literals.{span_text}
use Rattle.cursor.specs.Cursor.{next_number}
use Rattle.symbols.specs.Symbols.{illegal, find_from}
use Rattle.names.specs.Names.{error_record}
use Rattle.symbols.specs.Texts.{texts_from}
use Rattle.names.specs.declared.NameCounts.{NameCounts}
use Rattle.names.specs.declared.Entry.{Entry}
use Rattle.names.specs.declared.Entry.TheVariants.{New, Known, Wrong, Nothing}

abbrev pub name_of : Span → (expr : ℕ) → NameRecord
name_of s e = record { span = s; expr = record { 0 = e }; node = record { 0 = 0 } }

abbrev pub error_of : error.Kind → (start : ℕ) → Span → ErrorRecord
error_of k at s = error_record (record { kind = k; start = at; name = s })

-- the name k is known already: a first expression counts, a later one is an error
unfoldable pub known_entry : (exprs names : List ℕ) → (k : ℕ) → Span → (expr : ℕ) → Entry
known_entry exprs names k s e =
    if eqb (word_at name_width names k 2) 0 then Known (record { 0 = k }) (name_of (span_at name_width names k 0) e)
    else if eqb e 0 then Nothing
    else Wrong (error_of error.repeated (word_at expr_width exprs e 1) s)

-- the legal name is k already, if k is not 0
unfoldable pub legal_entry : (exprs names : List ℕ) → (k : ℕ) → Span → (expr : ℕ) → Entry
legal_entry exprs names k s e = if eqb k 0 then New (name_of s e) else known_entry exprs names k s e

-- a line with this name and this expression
unfoldable pub name_entry : (source exprs names : List ℕ) → (count : ℕ) → Span → (expr : ℕ) → Entry
name_entry source exprs names n s e =
    if illegal (span_text source s) then Wrong (error_of error.illegal s.start.0 s)
    else legal_entry exprs names (find_from 1 (texts_from source names 1 n) (span_text source s)) s e

-- the line of this number
unfoldable pub line_entry : (source lines exprs names : List ℕ) → (count number : ℕ) → Entry
line_entry source lines exprs names n i = name_entry source exprs names n (span_at line_width lines i 0) (word_at line_width lines i 2)

-- what is answered and left once it is known what a line does
abbrev pub Enters : Entry → (c r : NameCounts) → (names names' errors errors' : List ℕ) → Type 0
Enters (New x) c r ns ns' es es' =
    (r ≡ record { names = next_number c.names; errors = c.errors }) × (ns' ≡ written name_width ns (next_number c.names) (name_words x)) × (es' ≡ es)
Enters (Known k x) c r ns ns' es es' = (r ≡ c) × (ns' ≡ written name_width ns k.0 (name_words x)) × (es' ≡ es)
Enters (Wrong x) c r ns ns' es es' =
    (r ≡ record { names = c.names; errors = next_number c.errors }) × (ns' ≡ ns) × (es' ≡ written error_width es (next_number c.errors) (error_words x))
Enters Nothing c r ns ns' es es' = (r ≡ c) × (ns' ≡ ns) × (es' ≡ es)
