-- A match is not empty and lies inside. Assumes nothing.
use Prim.Native.Nat.{ℕ, ◌≤◌, ◌<◌}
use mathlib.Core.List.{List}
use mathlib.Core.Option.{Option, none, some}
use lib.ListN.{length}
use Rattle.records.specs.TokenKind as token
use Rattle.matches.specs.declared.Lexed.{Lexed}
use Rattle.matches.specs.declared.Lexed.TheVariants.{Token as OfKind, Skip, NoMatch}
use Rattle.matches.specs.Rows.{rows}
use Rattle.matches.specs.Longest.{made, lex_at}
use Rattle.matches.specs.Sets.{Lexes, wins, nothing}
use Rattle.matches.proofs.Longest.{lexed}

abbrev pub Sized : List ℕ → Lexed → Type 0
Sized s NoMatch = Unit {0}
Sized s (Skip n) = (0 < n) × (n ≤ length s)
Sized s (OfKind k n) = (0 < n) × (n ≤ length s)

sized : (s : List ℕ) (l : Lexed) → Lexes rows s l → Sized s l
sized s l (nothing f) = tt
sized s l (wins before r after n e w is) = rw is (go r.kind)
  where
    go : (k : Option token.Kind) → Sized s (made k n)
    go none = (w.some, w.front.inside)
    go (some k) = (w.some, w.front.inside)

pub match_sized : (s : List ℕ) → Sized s (lex_at s)
match_sized s = sized s (lex_at s) (lexed s)
