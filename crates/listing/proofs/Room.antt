-- What is read from a source can be listed: its listing does not go past `listing_limit`, since the texts of names, of the named nodes
-- and of errors are each together no longer than the source.
use Rattle.std.specs.Prelude.{if◌then◌else◌, Err, Ok, Result}
use Prim.Native.Nat.{ℕ, zero, suc, ◌+◌, ◌≤◌}
use mathlib.Core.Path.{◌≡◌, refl, sym, ap, ◌∙◌}
use mathlib.Core.Bool.{Bool, true, false}
use mathlib.Core.List.{List, [], ◌∷◌, map, map-map}
use mathlib.Core.Option.{some}
use native.Mathlib.Omega.{arith}
use lib.Dec.{leb, ltb}
use lib.ListN.{length, take, drop, length-map, length-take}
use borrow.Author.Tests.{ltb-false}
use Rattle.records.specs.Limits.{source_limit, record_limit}
use Rattle.records.specs.Refusals.{short_table, long_source, row_of}
use Rattle.records.specs.declared.Span.{Span}
use Rattle.records.specs.declared.NameRecord.{NameRecord}
use Rattle.records.specs.declared.NodeRecord.{NodeRecord}
use Rattle.records.specs.declared.ErrorRecord.{ErrorRecord}
use Rattle.text.specs.Check.{check_text}
use Rattle.lex.specs.Tokens.{Token, lexing}
use Rattle.lex.proofs.Tiling.{tiling, tokens_few}
use Rattle.literals.specs.Literals.{span_text}
use Rattle.checks.specs.Checks.{Checks, checks_of}
use Rattle.grammar.specs.Tree.{Line}
use Rattle.grammar.specs.Part.{span_of}
use Rattle.grammar.specs.Places.{Each, numbered}
use Rattle.grammar.specs.Rule.{Parsed, got, stop}
use Rattle.grammar.specs.Grammar.{lines}
use Rattle.ast.specs.Parsing.{parsing}
use Rattle.names.specs.Names.{names_of, name_record, error_record}
use Rattle.walk.specs.Walk.{Node, Status}
use Rattle.walk.specs.Trees.{record_no}
use Rattle.walk.specs.Nodes.{walked, nodes_of, node_no, in_degree, node_record, node_records_from, node_records, name_records_from, name_records}
use Rattle.walk.specs.Stands.{sum}
use Rattle.walk.specs.Demand.{Later}
use Rattle.walk.proofs.Numbered.{not_there}
use Rattle.walk.proofs.Sizes.{sum_le}
use Rattle.walk.proofs.Demand.{children_before_parents}
use Rattle.errors.specs.Errors.{all_errors}
use Rattle.errors.proofs.Weights.{tokens_weigh, errors_weigh_law, names_weigh, named_weigh, tokens_weigh_law}
use Rattle.print.specs.Text.{listing_limit}
use Rattle.rows.specs.Rows.{name_in}
use Rattle.rows.proofs.Room.{ChildrenFew, Bounded, refused_fits, listed_fits}
use Rattle.reader.specs.Reading.{contents, Reading, read, refused, by_lines, by_tokens, by_text, reading, Tables, short_to_read, read_into}
use Rattle.reader.proofs.Fits.{resolved_fit}
use Rattle.listing.specs.Listing.{listing}
use Rattle.text.specs.declared.TextError.{TextError}
use Rattle.lex.specs.declared.LexError.{LexError}

-- ---- records are of names and nodes, one for each in their order

module _ {B : Type 0} where
  -- what each record of a name says, if it is the same for every node of that name
  names_say : (g : NameRecord → B) (h : Token → B) (ls : List Line) → ((i : ℕ) (x : Token) → g (name_record ls i x) ≡ h x)
      → (st : ℕ → Status) (k : ℕ) (xs : List Token) → map g (name_records_from ls st k xs) ≡ map h xs
  unfolding name_records_from
  names_say g h ls e st k [] = refl
  names_say g h ls e st k (x ∷ xs) = cc (e (node_no (st k)) x, names_say g h ls e st (suc k) xs)

  -- what each record of a node says, if it is the same for every in-degree
  nodes_say : (g : NodeRecord → B) (h : Node → B) → ((x : Node) (d : ℕ) → g (node_record x d) ≡ h x) → (all : List Node) (i : ℕ) (xs : List Node) → map g (node_records_from all i xs) ≡ map h xs
  unfolding node_records_from
  nodes_say g h e all i [] = refl
  nodes_say g h e all i (x ∷ xs) = cc (e x (in_degree all i), nodes_say g h e all (suc i) xs)

-- lists that are the same under some functions are equally long
same_length : {A B C : Type 0} (f : A → C) (g : B → C) (xs : List A) (ys : List B) → map f xs ≡ map g ys → length xs ≡ length ys
same_length f g xs ys e = sym (length-map xs f) ∙ ap length e ∙ length-map ys g

-- children stand before their parents, so their numbers are those of records
children_few : (all : List Node) (i m : ℕ) (xs : List Node) → m + length xs ≤ record_limit → Each Later (numbered m xs) → Each ChildrenFew (node_records_from all i xs)
unfolding node_records_from numbered
children_few all i m [] few c = tt
children_few all i m (x ∷ xs) few c = (omega (arith, few, c.0), children_few all (suc i) (suc m) xs (omega (arith, few)) c.1)

-- ---- texts

-- the text of a token's span is the token's, or none
span_few : (source : List ℕ) (t : Token) → length (span_text source (span_of t)) ≤ length t.text
span_few source t = go (leb (t.start + length t.text) (length source))
  where
    go : (b : Bool) → length (if b then take (length t.text) (drop t.start source) else []) ≤ length t.text
    go true = omega (arith, length-take (length t.text) (drop t.start source))
    go false = omega arith

module _ (source : List ℕ) where
  -- the text of a name by its number
  name_text_law : (ls : List Line) (st : ℕ → Status) (k : ℕ) (xs : List Token) (n : ℕ) (x : Token) → record_no xs n ≡ some x → name_in source (name_records_from ls st k xs) n ≡ span_text source (span_of x)
  unfolding record_no name_in name_records_from name_record
  name_text_law ls st k xs zero x e = absurd (not_there x e)
  name_text_law ls st k [] (suc n) x e = absurd (not_there x e)
  name_text_law ls st k (y ∷ xs) (suc zero) x e = let q : y ≡ x = cc in ap (λ (z : Token). span_text source (span_of z)) q
  name_text_law ls st k (y ∷ xs) (suc (suc n)) x e = name_text_law ls st (suc k) xs (suc n) x e

  -- the number 0 has none
  no_name_law : (ns : List NameRecord) → length (name_in source ns 0) ≡ 0
  unfolding record_no name_in
  no_name_law ns = refl

-- THE RECORDS OF WHAT IS READ ARE FEW AND SHOW FEW BYTES
pub contents_bounded : (source : List ℕ) (n : ℕ) (jets : List ℕ) (ls : List Line) (rest : List Token) → length source ≤ source_limit → (lexing source).answer ≡ Ok n → lines (checks_of jets) (lexing source).tokens ≡ got ls rest
    → Bounded source (name_records ls) (node_records (nodes_of ls)) (map error_record (all_errors ls))
unfolding name_records node_records name_record
contents_bounded source n jets ls rest short lexed e = bounded
  where
    ts : List Token
    ts = (lexing source).tokens

    checks : Checks
    checks = checks_of jets

    st : ℕ → Status
    st = (walked ls).status

    ns : List NameRecord
    ns = name_records_from ls st 1 (names_of ls)

    xs : List NodeRecord
    xs = node_records_from (nodes_of ls) 1 (nodes_of ls)

    es : List ErrorRecord
    es = map error_record (all_errors ls)

    size : Span → ℕ
    size s = length (span_text source s)

    few : length ts ≤ record_limit
    few = omega (arith, (tiling source n lexed).1, tokens_few source n lexed)

    fit : (length (names_of ls) ≤ length ts) × (length (nodes_of ls) ≤ length ts) × (length (all_errors ls) ≤ length ts)
    fit = resolved_fit checks ts ls rest e

    light : tokens_weigh size ts ≤ length source
    light = omega (arith, sum_le (λ (t : Token). size (span_of t)) (λ (t : Token). length t.text) (span_few source) ts, tokens_weigh_law source n lexed)

    name_sizes : map (λ (r : NameRecord). size r.span) ns ≡ map (λ (t : Token). size (span_of t)) (names_of ls)
    name_sizes = names_say _ _ ls (λ i x. refl) st 1 (names_of ls)

    numbers : map (λ (r : NodeRecord). length (name_in source ns r.name.0)) xs ≡ map (λ (x : Node). length (name_in source ns x.head.name)) (nodes_of ls)
    numbers = nodes_say _ _ (λ x d. refl) (nodes_of ls) 1 (nodes_of ls)

    bounded : Bounded source ns xs es
    bounded =
        record {
          short = short;
          names = omega (arith, few, fit.0, same_length _ _ ns (names_of ls) name_sizes);
          nodes = omega (arith, few, fit.1, same_length _ _ xs (nodes_of ls) numbers);
          errors = omega (arith, few, fit.2, length-map (all_errors ls) error_record);
          children = children_few (nodes_of ls) 1 0 (nodes_of ls) (omega (arith, few, fit.1)) (children_before_parents ls);
          name_texts = omega (arith, light, names_weigh size checks ts ls rest e, ap sum name_sizes);
          node_texts =
              omega (
                arith,
                light,
                names_weigh size checks ts ls rest e,
                named_weigh (λ i. length (name_in source ns i)) (no_name_law source ns) ls (λ (t : Token). size (span_of t)) (λ i x f. ap length (name_text_law source ls st 1 (names_of ls) i x f)),
                ap sum numbers,
              );
          error_texts = omega (arith, light, errors_weigh_law size checks ts ls rest e, ap sum (map-map (λ (r : ErrorRecord). size r.name) error_record (all_errors ls)));
        }

-- ---- any source

-- the records of a reading are bounded
abbrev pub Within : (source : List ℕ) → Reading → Type 0
Within source (read c) = Bounded source c.names c.nodes c.errors
Within source (refused r) = Unit {0}

module _ (source jets : List ℕ) where
  module _ (not_long : length source ≤ source_limit) where
    lines_within : (n : ℕ) → (lexing source).answer ≡ Ok n → (p : Parsed (List Line)) → parsing source jets ≡ p → Within source (by_lines source (lexing source).tokens p)
    unfolding contents
    lines_within n lexed (got ls rest) e = contents_bounded source n jets ls rest not_long lexed e
    lines_within n lexed (stop x rest) e = tt

    tokens_within : (a : Result ℕ LexError) → (lexing source).answer ≡ a → Within source (by_tokens source jets a)
    tokens_within (Ok n) e = lines_within n e (parsing source jets) refl
    tokens_within (Err x) e = tt

    text_within : (a : Result (Unit {0}) TextError) → Within source (by_text source jets a)
    text_within (Ok _) = tokens_within (lexing source).answer refl
    text_within (Err x) = tt

  -- a source over the limit is refused
  reading_within : Within source (reading source jets)
  unfolding reading
  reading_within = go (ltb source_limit (length source)) refl
    where
      go : (b : Bool) → ltb source_limit (length source) ≡ b → Within source (if b then refused long_source else by_text source jets (check_text source))
      go true e = tt
      go false e = text_within (ltb-false source_limit (length source) e) (check_text source)

  pub read_within : (old : Tables) → Within source (read_into source jets old)
  unfolding read_into
  read_within old = go (short_to_read old)
    where
      go : (b : Bool) → Within source (if b then refused short_table else reading source jets)
      go true = tt
      go false = reading_within

  -- NO LISTING IS LONGER, WHATEVER THE SOURCE, THE JET LIST AND THE TABLES
  pub listing_fits : (old : Tables) → length (listing source (read_into source jets old)) ≤ listing_limit
  unfolding listing
  listing_fits old = go (read_into source jets old) (read_within old)
    where
      go : (x : Reading) → Within source x → length (listing source x) ≤ listing_limit
      go (read c) b = listed_fits source c.names c.nodes c.errors b
      go (refused r) b = refused_fits source (row_of r)
