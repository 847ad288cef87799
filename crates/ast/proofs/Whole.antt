-- The answer for any source, any jet list and any tables, by the tests that came before it. Assumes nothing.
use Prim.Native.Nat.{ℕ, ◌*◌, ◌≤◌}
use mathlib.Core.Bool.{Bool, true, false, ◌||◌}
use mathlib.Core.Path.{◌≡◌, refl, sym, ap, subst, ◌∙◌}
use mathlib.Core.List.{List, []}
use native.Mathlib.Omega.{arith}
use lib.Dec.{ltb}
use lib.ListN.{length, take}
use borrow.Author.Tests.{ltb-false, le-ltb}
use Rattle.records.specs.Limits.{source_limit, record_limit, token_width, line_width, expr_width, type_width}
use Rattle.tables.specs.Tables.{table_of}
use Rattle.tables.proofs.Laws.{table_cleared, table_again, table_length}
use Rattle.text.specs.Check.{check_text}
use Rattle.lex.specs.Tokens.{left_by_error, Token, lexing, rows_of, kept, token_table, lex_all, leaves}
use Rattle.lex.proofs.Going.{rows_wide, rows_length}
use Rattle.lex.proofs.Tiling.{tiling, tokens_lie, tokens_few}
use Rattle.checks.specs.Checks.{checks_of}
use Rattle.cursor.specs.Tokens.{tokens_left}
use Rattle.cursor.proofs.Laws.{left_all}
use Rattle.grammar.specs.Tree.{Line}
use Rattle.grammar.specs.Rule.{Parsed, got, stop}
use Rattle.grammar.specs.Grammar.{lines}
use Rattle.grammar.specs.Recorded.{line_records, lines_exprs, lines_types, line_rows, expr_rows_of, type_rows_of}
use Rattle.cursor.specs.declared.ParseRefusal.{ParseRefusal}
use Rattle.ends.specs.declared.Counts.{Counts}
use Rattle.records.proofs.Pairs.{ok_err}
use Rattle.lex.proofs.Answers.{Met, lexing_met}
use Rattle.ast.specs.Parsing.{parsed_of, ParserTables, tables, short_to_parse_by, tokens_kept, tokens_in, lines_in, end_by, parsing, holding_lines, parsed_by, left_by, parse_all, tables_after}
use Rattle.std.specs.Prelude.{Err, Ok, Result}
use Rattle.text.specs.declared.TextError.{TextError}
use Rattle.lex.specs.declared.LexError.{LexError}
use Rattle.lex.specs.declared.LexError.TheVariants.{LongSource, NoToken, NotUtf8, ShortTable, TooManyTokens}
use Rattle.ends.specs.declared.ParseError.{ParseError}
use Rattle.ends.specs.declared.ParseError.TheVariants.{NotLexed}

-- ---- room

or_false : (p q : Bool) → p || q ≡ false → (p ≡ false) × (q ≡ false)
or_false false q e = (refl, e)
or_false true q e = absurd (let z : ◌≡◌ {A = ℕ} 0 1 = cc in omega arith)

-- tables that are not too short
pub has_room : (a b c d : ℕ) → short_to_parse_by a b c d ≡ false → (record_limit * token_width ≤ a) × (record_limit * line_width ≤ b) × (record_limit * expr_width ≤ c) × (record_limit * type_width ≤ d)
unfolding short_to_parse_by
has_room a b c d e =
    let x = or_false ((ltb a (record_limit * token_width) || ltb b (record_limit * line_width)) || ltb c (record_limit * expr_width)) (ltb d (record_limit * type_width)) e in
    let y = or_false (ltb a (record_limit * token_width) || ltb b (record_limit * line_width)) (ltb c (record_limit * expr_width)) x.0 in
    let z = or_false (ltb a (record_limit * token_width)) (ltb b (record_limit * line_width)) y.0 in
    (ltb-false a (record_limit * token_width) z.0, ltb-false b (record_limit * line_width) z.1, ltb-false c (record_limit * expr_width) y.1, ltb-false d (record_limit * type_width) x.1)

-- ---- what the lexer's answer says

module _ (source table : List ℕ) (room : record_limit * token_width ≤ length table) where
  -- the table is not too short for it
  pub lex_roomy : lex_all source table ≡ Err ShortTable → ⊥
  unfolding lex_all
  lex_roomy e = go (ltb source_limit (length source)) refl (check_text source) refl
    where
      go : (b : Bool) → ltb source_limit (length source) ≡ b → (a : Result (Unit {0}) TextError) → check_text source ≡ a → ⊥
      go true h a k = let f : (Err LongSource) ≡ (Err ShortTable) = rw (le-ltb (length table) (record_limit * token_width) room, h) at e in absurd (let z : ◌≡◌ {A = ℕ} 0 1 = cc in omega arith)
      go false h (Ok _) k = lexing_met source ShortTable (rw (le-ltb (length table) (record_limit * token_width) room, h, k) at e)
      go false h (Err x) k = let f : Err (NotUtf8 (record { 0 = x.at })) ≡ Err ShortTable = rw (le-ltb (length table) (record_limit * token_width) room, h, k) at e in absurd (let z : ◌≡◌ {A = ℕ} 0 1 = cc in omega arith)

  -- tokens come from lexing
  pub lex_ended : (n : ℕ) → lex_all source table ≡ Ok n → ((lexing source).answer ≡ Ok n) × (length source ≤ source_limit)
  unfolding lex_all
  lex_ended n e = go (ltb source_limit (length source)) refl (check_text source) refl
    where
      go : (b : Bool) → ltb source_limit (length source) ≡ b → (a : Result (Unit {0}) TextError) → check_text source ≡ a → ((lexing source).answer ≡ Ok n) × (length source ≤ source_limit)
      go true h a k = absurd (ok_err (sym (rw (le-ltb (length table) (record_limit * token_width) room, h) at e)))
      go false h (Ok _) k = (rw (le-ltb (length table) (record_limit * token_width) room, h, k) at e, ltb-false source_limit (length source) h)
      go false h (Err x) k = absurd (ok_err (sym (rw (le-ltb (length table) (record_limit * token_width) room, h, k) at e)))

  -- and so do refusals 4 and 5
  pub lex_met : (x : LexError) → Met x → lex_all source table ≡ Err x → ((lexing source).answer ≡ Err x) × (length source ≤ source_limit)
  unfolding lex_all
  lex_met x m e = go (ltb source_limit (length source)) refl (check_text source) refl
    where
      other : (y : LexError) → (Met y → ⊥) → ◌≡◌ {A = Result ℕ LexError} (Err y) (Err x) → ⊥
      other y n f = let same : y ≡ x = cc in n (subst Met (sym same) m)

      go : (b : Bool) → ltb source_limit (length source) ≡ b → (a : Result (Unit {0}) TextError) → check_text source ≡ a → ((lexing source).answer ≡ Err x) × (length source ≤ source_limit)
      go true h a k = absurd (other LongSource (λ z. z) (rw (le-ltb (length table) (record_limit * token_width) room, h) at e))
      go false h (Ok _) k = (rw (le-ltb (length table) (record_limit * token_width) room, h, k) at e, ltb-false source_limit (length source) h)
      go false h (Err y) k = absurd (other (NotUtf8 (record { 0 = y.at })) (λ z. z) (rw (le-ltb (length table) (record_limit * token_width) room, h, k) at e))

-- ---- the whole

module _ (source jets ts ls es ty : List ℕ) where
  abbrev old : ParserTables
  old = tables ts ls es ty

  pub too_short : short_to_parse_by (length ts) (length ls) (length es) (length ty) ≡ true → (Err (NotLexed ShortTable) ≡ parse_all source jets old) × (tables ts ls es ty ≡ tables_after source jets old)
  unfolding parse_all tables_after
  too_short e = (rw e, rw e)

  module _ (roomy : short_to_parse_by (length ts) (length ls) (length es) (length ty) ≡ false) where
    room : (record_limit * token_width ≤ length ts) × (record_limit * line_width ≤ length ls) × (record_limit * expr_width ≤ length es) × (record_limit * type_width ≤ length ty)
    room = has_room (length ts) (length ls) (length es) (length ty) roomy

    -- an answer by the lexer's, and the tables by it
    settled : (a : Result ℕ LexError) (r : Result Counts ParseError) (new : ParserTables) → lex_all source ts ≡ a → r ≡ parsed_by source jets a → new ≡ left_by source jets old a → (r ≡ parse_all source jets old) × (new ≡ tables_after source jets old)
    unfolding parse_all tables_after
    settled a r new e f g = (f ∙ rw (roomy, e), g ∙ rw (roomy, e))

    -- the source has not lexed
    pub not_lexed : (x : LexError) (ts' ls' es' ty' : List ℕ) → lex_all source ts ≡ Err x → ts' ≡ leaves (lex_all source ts) source ts → ls' ≡ table_of line_width [] ls → es' ≡ table_of expr_width [] es → ty' ≡ table_of type_width [] ty
        → (Err (NotLexed x) ≡ parse_all source jets old) × (tables ts' ls' es' ty' ≡ tables_after source jets old)
    unfolding line_records lines_exprs lines_types
    not_lexed x ts' ls' es' ty' ex et el ee ey' =
        let clean : tables ts' ls' es' ty' ≡ tables ts' (table_of line_width [] ls) (table_of expr_width [] es) (table_of type_width [] ty) = rw (el, ee, ey') in
        go x ex (et ∙ ap (λ (q : Result ℕ LexError). leaves q source ts) ex) clean
      where
        go : (x : LexError) → lex_all source ts ≡ Err x → ts' ≡ left_by_error x ts → tables ts' ls' es' ty' ≡ tables ts' (table_of line_width [] ls) (table_of expr_width [] es) (table_of type_width [] ty) → (Err (NotLexed x) ≡ parse_all source jets old) × (tables ts' ls' es' ty' ≡ tables_after source jets old)
        go ShortTable e t k = absurd (lex_roomy source ts room.0 e)
        go LongSource e t k = settled (Err LongSource) (Err (NotLexed LongSource)) (tables ts' ls' es' ty') e refl (k ∙ rw t)
        go (NotUtf8 at) e t k = settled (Err (NotUtf8 at)) (Err (NotLexed (NotUtf8 at))) (tables ts' ls' es' ty') e refl (k ∙ rw t)
        go (NoToken at) e t k = settled (Err (NoToken at)) (Err (NotLexed (NoToken at))) (tables ts' ls' es' ty') e refl (k ∙ rw t)
        go (TooManyTokens at) e t k = settled (Err (TooManyTokens at)) (Err (NotLexed (TooManyTokens at))) (tables ts' ls' es' ty') e refl (k ∙ rw t)

    -- the source has lexed into m tokens
    module _ (m : ℕ) (ts' : List ℕ) (answered : lex_all source ts ≡ Ok m) (et : ts' ≡ leaves (lex_all source ts) source ts) where
      said : ((lexing source).answer ≡ Ok m) × (length source ≤ source_limit)
      said = lex_ended source ts room.0 m answered

      pub source_short : length source ≤ source_limit
      source_short = said.1

      pub count_few : m ≤ record_limit
      count_few = tokens_few source m said.0

      abbrev all : List Token
      all = (lexing source).tokens

      size : length all ≡ m
      size = (tiling source m said.0).1

      table_is : ts' ≡ table_of token_width (rows_of all) ts
      unfolding token_table
      table_is = et ∙ ap (λ (q : Result ℕ LexError). leaves q source ts) answered ∙ ap (λ (q : Result ℕ LexError). table_of token_width (rows_of (kept q all)) ts) said.0

      small : length (rows_of all) ≤ record_limit
      small = omega (arith, rows_length all, size, count_few)

      pub tokens_long : record_limit * token_width ≤ length ts'
      tokens_long = rw (table_is, table_length token_width ts (rows_wide all) small room.0) room.0

      left_is : tokens_left source ts' m 0 ≡ all
      left_is = ap (λ (q : List ℕ). tokens_left source q m 0) table_is ∙ ap (λ (k : ℕ). tokens_left source (table_of token_width (rows_of all) ts) k 0) (sym size) ∙ left_all source ts all (omega (arith, size, count_few)) (tokens_lie source m said.0).1

      pub lexed : (r : Result Counts ParseRefusal) (new ls' es' ty' : List ℕ) → r ≡ end_by (length source) (tokens_left source ts' m 0) (lines (checks_of jets) (tokens_left source ts' m 0)) → new ≡ tokens_kept (lines (checks_of jets) (tokens_left source ts' m 0)) ts' → ls' ≡ table_of line_width (line_rows (lines_in (lines (checks_of jets) (tokens_left source ts' m 0)))) ls → es' ≡ table_of expr_width (expr_rows_of (lines_in (lines (checks_of jets) (tokens_left source ts' m 0)))) es → ty' ≡ table_of type_width (type_rows_of (lines_in (lines (checks_of jets) (tokens_left source ts' m 0)))) ty
          → (parsed_of r ≡ parse_all source jets old) × (tables new ls' es' ty' ≡ tables_after source jets old)
      lexed r new ls' es' ty' er en el ee ey' =
          settled (Ok m) (parsed_of r) (tables new ls' es' ty') answered (ap parsed_of (er ∙ rw left_is)) (rw (en, el, ee, ey', left_is) (go (parsing source jets)))
        where
          P : Parsed (List Line)
          P = parsing source jets

          go : (P : Parsed (List Line)) → tables (tokens_kept P ts') (table_of line_width (line_rows (lines_in P)) ls) (table_of expr_width (expr_rows_of (lines_in P)) es) (table_of type_width (type_rows_of (lines_in P)) ty) ≡ holding_lines (tokens_in all P) (lines_in P) old
          go (got us q) = rw table_is
          go (stop z q) = ap (λ (i : List ℕ). tables i (table_of line_width (line_rows []) ls) (table_of expr_width (expr_rows_of []) es) (table_of type_width (type_rows_of []) ty)) (ap (table_of token_width []) table_is ∙ table_again token_width [] ts (rows_wide all) small)

-- ---- the table of tokens after parsing

module _ (end : ℕ) (us : List Token) (table : List ℕ) where
  pub kept_refused : (P : Parsed (List Line)) (r : Result Counts ParseRefusal) (x : ParseRefusal) (new : List ℕ) → record_limit * token_width ≤ length table → r ≡ end_by end us P → r ≡ Err x → new ≡ take (length table) (table_of token_width [] table) → new ≡ tokens_kept P table
  kept_refused (got ls q) r x new room e f g = absurd (let z : ◌≡◌ {A = ℕ} 0 1 = cc in omega arith)
  kept_refused (stop y q) r x new room e f g = g ∙ table_cleared token_width table room
