-- Document 01, Tokens: a row for each kind of token and for each skip, as a set of byte strings.
use Rattle.std.specs.Prelude.{ℕ, List, [], ◌∷◌, ◌++◌, map, replicate}
use Prim.Native.String.{String}
use Rattle.std.proofs.Math.Option.{Option, none, some}
use Rattle.records.specs.Base.{bytes}
use Rattle.records.specs.TokenKind as token
use Rattle.classes.specs.Classes.{word}
use Rattle.classes.specs.declared.Class.{Class}
use Rattle.classes.specs.declared.Class.TheVariants.{Bit, Digit, NonZero, LowHex, AnyHex, JetPart, SymbolFirst, SymbolPart, Blank, NotLf}

-- what may follow the fixed part of a row: nothing, or any number of bytes of a class
pub data Rest : Type 0 where
  stop : Rest
  any : Class → Rest

-- the byte strings of a kind (`none`: skipped): a byte of each class of the fixed part, then the rest
pub record Row : Type 0 where
  pub kind : Option token.Kind
  pub fixed : List Class
  pub rest : Rest

abbrev pub row_of_table : Option token.Kind → List Class → Rest → Row
row_of_table k f r = record { kind = k; fixed = f; rest = r }

-- a kind with one text
pub record Fixed : Type 0 where
  pub kind : token.Kind
  pub text : List ℕ

abbrev pub fixed : token.Kind → String → Fixed
fixed k w = record { kind = k; text = bytes w }

abbrev pub fixed_row : Fixed → Row
fixed_row f = row_of_table (some f.kind) (word f.text) stop

abbrev pub punctuation : List Fixed
punctuation =
    fixed token.assign ":="
    ∷ fixed token.arrow "->"
    ∷ fixed token.hash_brace "#{"
    ∷ fixed token.lparen "("
    ∷ fixed token.rparen ")"
    ∷ fixed token.plus "+"
    ∷ fixed token.star "*"
    ∷ fixed token.colon ":"
    ∷ fixed token.rbrace "}"
    ∷ fixed token.question "?"
    ∷ []

-- the keywords, and `_`
abbrev pub keywords : List Fixed
keywords =
    fixed token.const "const"
    ∷ fixed token.assertl "assertl"
    ∷ fixed token.assertr "assertr"
    ∷ fixed token.fail "fail"
    ∷ fixed token.disconnect "disconnect"
    ∷ fixed token.case "case"
    ∷ fixed token.comp "comp"
    ∷ fixed token.pair "pair"
    ∷ fixed token.injl "injl"
    ∷ fixed token.injr "injr"
    ∷ fixed token.take "take"
    ∷ fixed token.drop "drop"
    ∷ fixed token.unit "unit"
    ∷ fixed token.iden "iden"
    ∷ fixed token.witness "witness"
    ∷ fixed token.underscore "_"
    ∷ []

abbrev pub number_rows : List Row
number_rows =
    fixed_row (fixed token.one "1")
    ∷ fixed_row (fixed token.two "2")
    ∷ row_of_table (some token.power) (word (bytes "2^") ++ (NonZero ∷ [])) (any Digit)
    ∷ row_of_table (some token.bin) (word (bytes "0b") ++ (Bit ∷ [])) (any Bit)
    ∷ row_of_table (some token.hex) (word (bytes "0x") ++ (LowHex ∷ [])) (any LowHex)
    ∷ row_of_table (some token.cmr) (word (bytes "#") ++ replicate 64 AnyHex) stop
    ∷ []

abbrev pub skip_rows : List Row
skip_rows =
    row_of_table none (Blank ∷ []) stop
    ∷ row_of_table none (word (bytes "--")) (any NotLf)
    ∷ []

abbrev pub jet_row : Row
jet_row = row_of_table (some token.jet) (word (bytes "jet_") ++ (JetPart ∷ [])) (any JetPart)

abbrev pub symbol_row : Row
symbol_row = row_of_table (some token.symbol) (SymbolFirst ∷ []) (any SymbolPart)

-- what a symbol may be as long as; it is the last row
abbrev pub word_rows : List Row
word_rows = map fixed_row keywords ++ (jet_row ∷ symbol_row ∷ [])

abbrev pub other_rows : List Row
other_rows = map fixed_row punctuation ++ number_rows ++ skip_rows

-- On equal length the upper row wins: a keyword, `_`, a jet and a comment beat a symbol. No other two rows can tie.
abbrev pub rows : List Row
rows = other_rows ++ word_rows
