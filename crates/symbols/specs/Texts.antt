-- A table of names by its words: the text of a name, the texts of names one behind the other.
use Rattle.std.specs.Prelude.{ℕ, zero, suc, List, [], ◌∷◌}
use Rattle.records.specs.Limits.{name_width}
use Rattle.tables.specs.Tables.{span_at}
use Rattle.literals.specs.Literals.{span_text}
use Rattle.symbols.specs.Symbols.{Text}

-- the text of the name number n
unfoldable pub name_text : (source names : List ℕ) → (n : ℕ) → Text
name_text source names n = span_text source (span_at name_width names n 0)

-- the texts of the names from number k on, so many
unfoldable pub texts_from : (source names : List ℕ) → (k count : ℕ) → List Text
texts_from source names k zero = []
texts_from source names k (suc c) = name_text source names k ∷ texts_from source names (suc k) c
