-- Document 01, Listing: the kinds of nodes. Expressions use the same numbers.
use Rattle.std.specs.Prelude.{ℕ, List, [], ◌∷◌, map}

-- what an expression is if it is no reference; such a part becomes a node of its kind
pub data PartKind : Type 0 where
  assertl assertr iden unit injl injr take drop comp case pair disconnect witness hole fail jet word : PartKind

-- the parts in the order of the page
abbrev pub part_kinds : List PartKind
part_kinds =
    assertl ∷ assertr ∷ iden ∷ unit ∷ injl ∷ injr ∷ take ∷ drop ∷ comp ∷ case ∷ pair ∷ disconnect ∷ witness ∷ hole ∷
    fail ∷ jet ∷ word ∷ []

pub data Kind : Type 0 where
  missing noexpr ref : Kind
  part : PartKind → Kind

-- the kinds in the order of the page
abbrev pub kinds : List Kind
kinds = missing ∷ noexpr ∷ ref ∷ map part part_kinds

-- they count from 1
abbrev pub part_number : PartKind → ℕ
part_number assertl = 4
part_number assertr = 5
part_number iden = 6
part_number unit = 7
part_number injl = 8
part_number injr = 9
part_number take = 10
part_number drop = 11
part_number comp = 12
part_number case = 13
part_number pair = 14
part_number disconnect = 15
part_number witness = 16
part_number hole = 17
part_number fail = 18
part_number jet = 19
part_number word = 20

abbrev pub number : Kind → ℕ
number missing = 1
number noexpr = 2
number ref = 3
number (part p) = part_number p
