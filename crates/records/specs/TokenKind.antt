-- Document 01, Tokens: the kinds, first punctuation, then keywords, then the others.
use Rattle.std.specs.Prelude.{ℕ, List, [], ◌∷◌}

pub data Kind : Type 0 where
  assign arrow hash_brace lparen rparen plus star colon rbrace question : Kind
  const assertl assertr fail disconnect case comp pair injl injr take drop unit iden witness : Kind
  underscore one two power bin hex cmr jet symbol : Kind

-- the kinds in the order of the page
abbrev pub kinds : List Kind
kinds =
    assign ∷ arrow ∷ hash_brace ∷ lparen ∷ rparen ∷ plus ∷ star ∷ colon ∷ rbrace ∷ question ∷ const ∷
    assertl ∷ assertr ∷ fail ∷ disconnect ∷ case ∷ comp ∷ pair ∷ injl ∷ injr ∷ take ∷ drop ∷ unit ∷ iden ∷
    witness ∷ underscore ∷ one ∷ two ∷ power ∷ bin ∷ hex ∷ cmr ∷ jet ∷ symbol ∷ []

-- they count from 1
abbrev pub number : Kind → ℕ
number assign = 1  -- :=
number arrow = 2  -- ->
number hash_brace = 3  -- #{
number lparen = 4  -- (
number rparen = 5  -- )
number plus = 6  -- +
number star = 7  -- *
number colon = 8  -- :
number rbrace = 9  -- }
number question = 10  -- the question mark
number const = 11
number assertl = 12
number assertr = 13
number fail = 14
number disconnect = 15
number case = 16
number comp = 17
number pair = 18
number injl = 19
number injr = 20
number take = 21
number drop = 22
number unit = 23
number iden = 24
number witness = 25
number underscore = 26  -- _
number one = 27  -- 1
number two = 28  -- 2
number power = 29  -- 2^ and an exponent
number bin = 30  -- 0b and binary digits
number hex = 31  -- 0x and hex digits
number cmr = 32  -- # and 64 hex digits
number jet = 33  -- jet_ and a name
number symbol = 34
