-- Document 01, Names and nodes, by text: which names are illegal, and under which number a name is found.
use Rattle.std.specs.Prelude.{ℕ, suc, Bool, ◌||◌, List, [], ◌∷◌, map, if◌then◌else◌}
use Rattle.records.specs.Base.{bytes}
use Rattle.classes.specs.Classes.{word, starts}
use Rattle.lex.specs.Tokens.{Token}
use Rattle.checks.specs.Jets.{same}

abbrev pub Text : Type 0
Text = List ℕ

-- a name that is `_` or begins with `prim`
unfoldable pub illegal : Text → Bool
illegal x = same x (bytes "_") || starts (word (bytes "prim")) x

-- the number of the first of these texts that is x, if they count from k; 0 if none is
unfoldable pub find_from : (k : ℕ) → List Text → (x : Text) → ℕ
find_from k [] x = 0
find_from k (y ∷ ys) x =
    let later : ℕ = find_from (suc k) ys x in
    if same y x then k else later

abbrev pub texts : List Token → List Text
texts ns = map (λ (n : Token). n.text) ns

-- Names are numbered by first legal line; a text that has none is 0.
unfoldable pub find : (names : List Token) → (x : Text) → ℕ
find ns x = find_from 1 (texts ns) x
