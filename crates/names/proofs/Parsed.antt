-- What the parser gives is held: after a source is read into lines, their names and references stand in it, and there is room for
-- a node of each line and of each part.
use Prim.Native.Nat.{ℕ, ◌+◌, ◌≤◌}
use mathlib.Core.Path.{◌≡◌, refl, sym}
use mathlib.Core.Logic.{inl, inr}
use mathlib.Core.List.{List, [], ◌∷◌}
use native.Mathlib.Omega.{arith}
use lib.ListN.{length, length-append}
use borrow.Author.Tests.{le-leb}
use Rattle.records.specs.Limits.{record_limit, expr_width}
use Rattle.tables.specs.Tables.{table_of}
use Rattle.lex.specs.Tokens.{Token}
use Rattle.lex.specs.Tiles.{Inside}
use Rattle.checks.specs.Checks.{Checks}
use Rattle.grammar.specs.Tree.{Line}
use Rattle.grammar.specs.Rule.{got}
use Rattle.grammar.specs.Grammar.{lines}
use Rattle.grammar.specs.Derives as is
use Rattle.grammar.specs.Derives.{IsFile}
use Rattle.grammar.specs.Part as part
use Rattle.grammar.specs.Part.{Part, weight}
use Rattle.grammar.specs.Recorded.{line_part, exprs_of, lines_exprs, expr_rows_of}
use Rattle.grammar.specs.Places.{Each, places, file_places}
use Rattle.grammar.proofs.Takes.{total, lines_exprs_law}
use Rattle.grammar.proofs.Records.{each_front, each_back}
use Rattle.grammar.proofs.Accepts.{lines_derived}
use Rattle.grammar.proofs.Places.{Made, none, refer, own, behind, before, LineMade, line, line_made, places_few}
use Rattle.names.specs.Uses.{Refers}
use Rattle.names.specs.Held.{InPlace, Held}

-- ---- texts stand in the source

inside_place : (source : List ℕ) (ts : List Token) → Inside source ts → Each (InPlace source) ts
inside_place source [] h = tt
inside_place source (t ∷ ts) h = (rw (le-leb (t.start + length t.text) (length source) h.0) (sym h.1), inside_place source ts h.2)

module _ (P : Token → Type 0) where
  -- a reference is one of the tokens that the part is made of
  made_refers : {us : List Token} {p : Part} → Made us p → Each P us → (t : Token) → Refers p t → P t
  unfolding Refers
  made_refers none h t r = absurd r
  made_refers refer h t r = rw (← r) h.0
  made_refers (own {ls} {rs} u s a b) h t (inl r) = made_refers a (each_front P ls rs h.1) t r
  made_refers (own {ls} {rs} u s a b) h t (inr r) = made_refers b (each_back P ls rs h.1) t r
  made_refers (behind u k) h t r = made_refers k h.1 t r
  made_refers (before {us} vs k) h t r = made_refers k (each_front P us vs h) t r

  line_of : {us : List Token} {l : Line} → LineMade us l → Each P us → P l.name × ((t : Token) → Refers (line_part l) t → P t)
  line_of (line k) h = (h.0, made_refers k h.1)

  file_of : (checks : Checks) {us : List Token} {ls : List Line} → IsFile checks us ls → Each P us
      → Each (λ (l : Line). P l.name) ls × Each (λ (l : Line). (t : Token) → Refers (line_part l) t → P t) ls
  file_of checks is.end h = (tt, tt)
  file_of checks (is.more {ts} {us} k f) h =
      let a = line_of (line_made checks k) (each_front P ts us h) in
      let b = file_of checks f (each_back P ts us h) in
      ((a.0, b.0), (a.1, b.1))

-- ---- room

places_weigh : (p : Part) → length (places p) ≡ weight p
unfolding places weight
places_weigh part.none = refl
places_weigh (part.part k at s l r) = omega (arith, length-append (places l) (places r), places_weigh l, places_weigh r)
places_weigh (part.refer x) = refl

file_weigh : (ls : List Line) → length (file_places ls) ≡ length ls + total exprs_of ls
unfolding file_places total
file_weigh [] = refl
file_weigh (l ∷ ls) = omega (arith, length-append (places (line_part l)) (file_places ls), places_weigh (line_part l), file_weigh ls)

-- a file has no more lines and expressions together than tokens
pub lines_room : (checks : Checks) (ts : List Token) (ls : List Line) (rest : List Token) → lines checks ts ≡ got ls rest → length ls + length (lines_exprs ls 0) ≤ length ts
lines_room checks ts ls rest e = omega (arith, lines_exprs_law ls 0, file_weigh ls, places_few checks ts ls rest e)

-- ---- what the parser gives

pub parsed_held : (checks : Checks) (source : List ℕ) (ts : List Token) (ls : List Line) (rest : List Token) → lines checks ts ≡ got ls rest → Inside source ts → length ts ≤ record_limit
    → (old : List ℕ) → Held source (table_of expr_width (expr_rows_of ls) old) ls
parsed_held checks source ts ls rest e i few old =
    let f = file_of (InPlace source) checks (lines_derived checks ts rest ls e).1 (inside_place source ts i) in
    record {
      old = old;
      table = refl;
      room = omega (arith, lines_room checks ts ls rest e, few);
      names = f.0;
      references = f.1;
    }
