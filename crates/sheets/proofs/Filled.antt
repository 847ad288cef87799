-- A sheet in an output: its tables are long enough, and what was written counts bytes of it. Assumes nothing.
use Rattle.std.specs.Prelude.{if◌then◌else◌, None, Some}
use Prim.Native.Nat.{ℕ, ◌*◌, ◌<◌, ◌≤◌}
use mathlib.Core.Bool.{Bool, true, false}
use mathlib.Core.Path.{◌≡◌, refl, sym, ap}
use mathlib.Core.List.{List, ◌++◌}
use native.Mathlib.Omega.{arith}
use lib.Dec.{leb}
use lib.ListN.{length, take, drop, length-append}
use lib.Seq.{length-take-le}
use borrow.Author.Tests.{le-leb, lt-leb, lt-ltb, le-ltb}
use Rattle.records.specs.Limits.{record_limit, token_width, line_width, expr_width, type_width, name_width, node_width, error_width, work_width}
use Rattle.ast.specs.Parsing as ast
use Rattle.print.specs.Text.{Puts}
use Rattle.reader.specs.Reading.{reading, eight, short_to_read_by, read_into}
use Rattle.listing.specs.Listing.{listing, list_answer, listed_in}
use Rattle.listing.proofs.Texts.{listed_all, listed_none}
use Rattle.sheets.specs.Sheet.{jets_limit, refused_jets, sheet, bytes_of}

-- tables of just so many words are not short
pub own_tables : (source jets ts ls es ty ns xs rs ws : List ℕ) → length ts ≡ record_limit * token_width → length ls ≡ record_limit * line_width → length es ≡ record_limit * expr_width → length ty ≡ record_limit * type_width → length ns ≡ record_limit * name_width → length xs ≡ record_limit * node_width → length rs ≡ record_limit * error_width → length ws ≡ record_limit * work_width → read_into source jets (eight ts ls es ty ns xs rs ws) ≡ reading source jets
unfolding read_into short_to_read_by ast.short_to_parse_by
own_tables source jets ts ls es ty ns xs rs ws a b c d e f g h = rw (a, b, c, d, e, f, g, h)

-- a refused jet list: there is room for the words, or none
pub refused_all : (out out' : List ℕ) (n : ℕ) → 13 ≤ length out → Puts refused_jets out 0 out' n → (Some n ≡ list_answer refused_jets (length out)) × (out' ≡ listed_in refused_jets out)
refused_all out out' n h p = listed_all refused_jets out out' n true (sym (le-leb 13 (length out) h)) refl p

pub refused_none : (out : List ℕ) → length out < 13 → (None ≡ list_answer refused_jets (length out)) × (out ≡ listed_in refused_jets out)
refused_none out h = listed_none refused_jets out false (sym (lt-leb 13 (length out) h)) refl

-- the sheet by the length of the jet list
pub jets_refused : (source jets : List ℕ) → jets_limit < length jets → refused_jets ≡ sheet source jets
unfolding sheet
jets_refused source jets h = rw (lt-ltb jets_limit (length jets) h)

pub jets_taken : (source jets : List ℕ) → length jets ≤ jets_limit → listing source (reading source jets) ≡ sheet source jets
unfolding sheet
jets_taken source jets h = rw (le-ltb jets_limit (length jets) h)

-- what is said to be written lies in the output
pub inside : (text out out' : List ℕ) (r : ℕ) → r ≡ bytes_of (list_answer text (length out)) → out' ≡ listed_in text out → (r ≤ length out') × (r ≡ length (take r out'))
unfolding list_answer listed_in
inside text out out' r e o = go (leb (length text) (length out)) e o
  where
    within : (r : ℕ) (xs : List ℕ) → r ≤ length xs → (r ≤ length xs) × (r ≡ length (take r xs))
    within r xs h = (h, sym (length-take-le r xs h))

    go : (b : Bool) → r ≡ bytes_of (if b then Some (length text) else None) → out' ≡ (if b then text ++ drop (length text) out else out) → (r ≤ length out') × (r ≡ length (take r out'))
    go true e o =
        within r out' (omega (arith, e, ap length o, length-append text (drop (length text) out)))
    go false e o = within r out' (omega (arith, e))
