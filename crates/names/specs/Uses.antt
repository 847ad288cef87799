-- Document 01 and demand 3: which names a program's names use, where uses lead, and when a program is sound. Statements on
-- texts; nothing here computes.
use Rattle.std.specs.Prelude.{false, ◌≡◌, ◌⊎◌, List, [], ◌∷◌, ◌++◌, map}
use Rattle.lex.specs.Tokens.{Token}
use Rattle.grammar.specs.Tree.{Line}
use Rattle.grammar.specs.Part as part
use Rattle.grammar.specs.Part.{Part, part_if}
use Rattle.symbols.specs.Symbols.{Text, illegal}
use Rattle.names.specs.Names.{first_expression}

-- a stands in the list
abbrev pub In : {A : Type 0} → A → List A → Type 0
In a [] = ⊥
In a (x ∷ xs) = (x ≡ a) ⊎ In a xs

-- The reference t stands in the part, inside `#{ }` too. `?x` and type names are no references.
unfoldable pub Refers : Part → Token → Type 0
Refers part.none t = ⊥
Refers (part.part k at s l r) t = Refers l t ⊎ Refers r t
Refers (part.refer x) t = x ≡ t

module _ (lines : List Line) where
  -- the name x has a legal line
  abbrev pub HasLine : Text → Type 0
  HasLine x = (illegal x ≡ false) × In x (map (λ (l : Line). l.name.text) lines)

  -- The name x has a legal line, and the reference t stands in its first expression. So an incomplete name has no reference,
  -- and neither later expressions nor illegal lines have any.
  abbrev pub HasReference : Text → Token → Type 0
  HasReference x t = HasLine x × Refers (part_if (first_expression lines x)) t

  -- the name x uses the name y
  abbrev pub Uses : Text → Text → Type 0
  Uses x y = (t : Token) × HasReference x t × (t.text ≡ y)

  -- one or more uses lead from x to the name that is the index
  pub data Leads (x : Text) : Text → Type 0 where
    one : (y : Text) → Uses x y → Leads x y
    more : (y z : Text) → Leads x y → Uses y z → Leads x z

  -- a loop: the holder is the name used, or the name used leads to the holder
  abbrev pub Loop : (holder used : Text) → Type 0
  Loop x y = (x ≡ y) ⊎ Leads y x

  -- There is a list of the names that have a legal line, in which each name used in a name's first expression stands earlier
  -- than that name.
  pub record Sound : Type 0 where
    pub order : List Text
    pub all : (x : Text) → HasLine x → In x order
    pub only : (x : Text) → In x order → HasLine x
    pub earlier : (before after : List Text) (x y : Text) → order ≡ before ++ (x ∷ after) → Uses x y → In y before
