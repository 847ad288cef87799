-- What the code lists is the listing of the reading; and how the output then stands.
use Prim.Native.Nat.{ℕ, ◌≤◌}
use mathlib.Core.Path.{◌≡◌, sym, ap, subst, ◌∙◌}
use mathlib.Core.Bool.{Bool, true, false}
use mathlib.Core.List.{List}
use lib.ListN.{length}
use native.Mathlib.Omega.{arith}
use lib.Dec.{leb}
use borrow.Author.Tests.{leb-true}
use Rattle.records.specs.declared.refusals.Refusal.{Refusal}
use Rattle.print.specs.Text.{listing_limit, Puts}
use Rattle.print.proofs.Putting.{sets_front}
use Rattle.rows.specs.Rows.{refused_row}
use Rattle.rows.specs.Words.{listed_at}
use Rattle.rows.proofs.Held.{listed_held}
use Rattle.ends.specs.Rows.{row_of_parse_error}
use Rattle.reader.specs.Reading.{Reading, read, refused, Tables, holding, read_into, read_tables, answer_of}
use Rattle.ends.specs.declared.ReadCounts.{ReadCounts}
use Rattle.reader.proofs.Answers.{row_is}
use Rattle.listing.specs.Listing.{listing, list_answer, listed_in}
use Rattle.listing.specs.Steps.{text_of}
use Rattle.listing.proofs.Room.{Within, read_within, listing_fits}
use Rattle.ends.specs.declared.ParseError.{ParseError}
use Rattle.std.specs.Prelude.{Err, None, Ok, Option, Result, Some}

-- ---- the text

by_reading : (source : List ℕ) (x : Reading) → Within source x → (old t : Tables) → t ≡ read_tables x old → text_of source (answer_of x) t.names t.nodes t.errors ≡ listing source x
unfolding text_of listing holding
by_reading source (read c) b old t e =
    listed_held source t.names t.nodes t.errors c.names c.nodes c.errors
    (record {
      old_names = old.names;
      old_nodes = old.nodes;
      old_errors = old.errors;
      name_table = ap (λ (u : Tables). u.names) e;
      node_table = ap (λ (u : Tables). u.nodes) e;
      error_table = ap (λ (u : Tables). u.errors) e;
      few_names = b.names;
      few_nodes = b.nodes;
      few_errors = b.errors;
    })
by_reading source (refused r) b old t e = ap (refused_row source) (row_is (refused r))

module _ (source jets : List ℕ) (old : Tables) where
  abbrev text : List ℕ
  text = listing source (read_into source jets old)

  -- the answer and the tables of a reading are listed as it is
  pub text_is : (r : Result ReadCounts ParseError) (t : Tables) → r ≡ answer_of (read_into source jets old) → t ≡ read_tables (read_into source jets old) old → text_of source r t.names t.nodes t.errors ≡ text
  text_is r t er et = rw er (by_reading source (read_into source jets old) (read_within source jets old) old t et)

  -- and there is room for it
  pub text_fits : (r : Result ReadCounts ParseError) (t : Tables) → r ≡ answer_of (read_into source jets old) → t ≡ read_tables (read_into source jets old) old → length (text_of source r t.names t.nodes t.errors) ≤ listing_limit
  text_fits r t er et = subst (λ (w : List ℕ). length w ≤ listing_limit) (sym (text_is r t er et)) (listing_fits source jets old)

-- what is listed for an answer that is known
pub text_read : (source : List ℕ) (r : Result ReadCounts ParseError) (n : ReadCounts) (names nodes errors : List ℕ) → r ≡ Ok n → text_of source r names nodes errors ≡ listed_at source names n.names nodes n.nodes errors n.errors
unfolding text_of
text_read source r n names nodes errors e = rw e

pub text_refused : (source : List ℕ) (r : Result ReadCounts ParseError) (x : ParseError) (w : Refusal) (names nodes errors : List ℕ) → r ≡ Err x → w ≡ row_of_parse_error x → text_of source r names nodes errors ≡ refused_row source w
unfolding text_of
text_refused source r x w names nodes errors e f = rw (f, e)

-- the same text
pub puts_same : (t u out out' : List ℕ) (r : ℕ) → t ≡ u → Puts u out 0 out' r → Puts t out 0 out' r
puts_same t u out out' r e p = subst (λ (v : List ℕ). Puts v out 0 out' r) (sym e) p

-- ---- the output

pub listed_all : (text out out' : List ℕ) (n : ℕ) (b : Bool) → b ≡ leb (length text) (length out) → b ≡ true → Puts text out 0 out' n → (Some n ≡ list_answer text (length out)) × (out' ≡ listed_in text out)
unfolding list_answer listed_in
listed_all text out out' n b t q p =
    let fits : leb (length text) (length out) ≡ true = sym t ∙ q in
    let size : n ≡ length text = omega (arith, p.behind) in
    (rw (size, fits), rw fits (p.written ∙ sets_front text out (leb-true (length text) (length out) fits)))

pub listed_none : (text out : List ℕ) (b : Bool) → b ≡ leb (length text) (length out) → b ≡ false → (None ≡ list_answer text (length out)) × (out ≡ listed_in text out)
unfolding list_answer listed_in
listed_none text out b t q =
    let short : leb (length text) (length out) ≡ false = sym t ∙ q in
    (rw short, rw short)

-- one text for the other
pub listed_as : (t u out out' : List ℕ) (r : Option ℕ) → t ≡ u → r ≡ list_answer t (length out) → out' ≡ listed_in t out → (r ≡ list_answer u (length out)) × (out' ≡ listed_in u out)
listed_as t u out out' r e a o = (a ∙ ap (λ (v : List ℕ). list_answer v (length out)) e, o ∙ ap (λ (v : List ℕ). listed_in v out) e)
