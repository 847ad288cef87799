-- The answer for any source, any jet list and any tables, by the tests that came before it.
use Prim.Native.Nat.{ℕ, ◌*◌, ◌≤◌}
use mathlib.Core.Bool.{Bool, true, false, ◌||◌}
use mathlib.Core.Path.{◌≡◌, refl, sym, ap, subst, ◌∙◌}
use mathlib.Core.List.{List, []}
use native.Mathlib.Omega.{arith}
use lib.Dec.{ltb}
use lib.ListN.{length}
use borrow.Author.Tests.{ltb-false}
use Rattle.records.specs.Limits.{record_limit, name_width, node_width, error_width, work_width}
use Rattle.tables.specs.Tables.{table_of}
use Rattle.lex.specs.Tokens.{Token, lexing}
use Rattle.lex.proofs.Tiling.{tiling, tokens_lie, tokens_few}
use Rattle.checks.specs.Checks.{checks_of}
use Rattle.grammar.specs.Tree.{Line}
use Rattle.grammar.specs.Rule.{Parsed, got, stop}
use Rattle.grammar.specs.Recorded.{line_records, lines_exprs, lines_types}
use Rattle.cursor.specs.Cursor.{place_of_left}
use Rattle.ast.specs.Parsing as ast
use Rattle.ast.specs.Parsing.{tables, parsing, lines_in, tokens_in, end_by, parsed_of, parsed_by}
use Rattle.ends.specs.declared.Counts.{Counts}
use Rattle.ast.proofs.Whole.{has_room, lex_ended}
use Rattle.names.specs.Held.{HeldLines}
use Rattle.names.proofs.Parsed.{parsed_held}
use Rattle.names.specs.Held.{Held}
use Rattle.ends.specs.declared.ReadCounts.{ReadCounts}
use Rattle.records.proofs.Pairs.{ok_err, err_same}
use Rattle.reader.proofs.Answers.{fault_answer, fault_left, by_lexer, counts_held, tables_held}
use Rattle.reader.specs.Reading.{by_tokens, faulty, Reading, Tables, eight, short_to_read_by, nothing, holding, read_into, read_tables, answer_of}
use Rattle.reader.specs.Steps.{changes_no_word, Resolves}
use Rattle.lex.specs.declared.LexError.{LexError}
use Rattle.lex.specs.declared.LexError.TheVariants.{LongSource, NoToken, NotUtf8, ShortTable, TooManyTokens}
use Rattle.std.specs.Prelude.{Err, Ok, Result}
use Rattle.ends.specs.declared.ParseError.{ParseError}
use Rattle.ends.specs.declared.ParseError.TheVariants.{NotLexed}

-- ---- room

or_false : (p q : Bool) → p || q ≡ false → (p ≡ false) × (q ≡ false)
or_false false q e = (refl, e)
or_false true q e = absurd (let z : ◌≡◌ {A = ℕ} 0 1 = cc in omega arith)

-- no test has both answers
yes_no : {b : Bool} → b ≡ false → b ≡ true → ⊥
yes_no e f = let g : true ≡ false = sym f ∙ e in let z : ◌≡◌ {A = ℕ} 0 1 = cc in omega arith

-- tables that are not too short
pub roomy : (a b c d : ℕ) → short_to_read_by a b c d ≡ false → (record_limit * name_width ≤ a) × (record_limit * node_width ≤ b) × (record_limit * error_width ≤ c) × (record_limit * work_width ≤ d)
unfolding short_to_read_by
roomy a b c d e =
    let x = or_false ((ltb a (record_limit * name_width) || ltb b (record_limit * node_width)) || ltb c (record_limit * error_width)) (ltb d (record_limit * work_width)) e in
    let y = or_false (ltb a (record_limit * name_width) || ltb b (record_limit * node_width)) (ltb c (record_limit * error_width)) x.0 in
    let z = or_false (ltb a (record_limit * name_width)) (ltb b (record_limit * node_width)) y.0 in
    (ltb-false a (record_limit * name_width) z.0, ltb-false b (record_limit * node_width) z.1, ltb-false c (record_limit * error_width) y.1, ltb-false d (record_limit * work_width) x.1)

-- ---- the whole

module _ (source jets ts ls es ty ns xs rs ws : List ℕ) where
  abbrev old : Tables
  old = eight ts ls es ty ns xs rs ws

  abbrev four : ast.ParserTables
  four = tables ts ls es ty

  pub too_short : short_to_read_by (length ns) (length xs) (length rs) (length ws) ≡ true → (Err (NotLexed ShortTable) ≡ answer_of (read_into source jets old)) × (eight ts ls es ty ns xs rs ws ≡ read_tables (read_into source jets old) old)
  unfolding read_into
  too_short e = (rw e, rw e)

  module _ (room : short_to_read_by (length ns) (length xs) (length rs) (length ws) ≡ false) where
    -- an answer by the lexer's, and the tables by it
    settled : (a : Result ℕ LexError) (r : Result ReadCounts ParseError) (new : Tables) → ast.lex_answer source four ≡ a → r ≡ answer_of (by_tokens source jets a) → new ≡ read_tables (by_tokens source jets a) old → (r ≡ answer_of (read_into source jets old)) × (new ≡ read_tables (read_into source jets old) old)
    settled a r new e f g =
        let q : by_tokens source jets a ≡ read_into source jets old = ap (by_tokens source jets) (sym e) ∙ sym (by_lexer source jets ts ls es ty ns xs rs ws room) in
        (f ∙ ap answer_of q, g ∙ ap (λ (x : Reading). read_tables x old) q)

    -- what parsing answered and left
    data Seen : Result Counts ParseError → ast.ParserTables → Type 0 where
      short : ast.lex_answer source four ≡ Err ShortTable → Seen (Err (NotLexed ShortTable)) four
      refused : {x : ParseError} (l : Result ℕ LexError) → ast.lex_answer source four ≡ l → changes_no_word x ≡ false → Err x ≡ answer_of (by_tokens source jets l) → holding nothing old ≡ read_tables (by_tokens source jets l) old → Seen (Err x) (ast.holding_lines [] [] four)
      parsed : (m : ℕ) (us : List Line) (rest : List Token) → ast.lex_answer source four ≡ Ok m → parsing source jets ≡ got us rest → Seen (Ok (ast.counts_of_lines (lexing source).tokens us)) (ast.holding_lines (lexing source).tokens us four)

    seen : (a : Result Counts ParseError) (new : ast.ParserTables) → a ≡ ast.parse_all source jets four → new ≡ ast.tables_after source jets four → Seen a new
    seen a new e f = subst (λ (t : ast.ParserTables). Seen a t) (sym f) (subst (λ (x : Result Counts ParseError). Seen x (ast.tables_after source jets four)) (sym e) (unfold ast.parse_all ast.tables_after in go (ast.lex_answer source four) refl))
      where
        ended : (m : ℕ) → ast.lex_answer source four ≡ Ok m → (p : Parsed (List Line)) → parsing source jets ≡ p → Seen (parsed_of (end_by (length source) (lexing source).tokens p)) (ast.holding_lines (tokens_in (lexing source).tokens p) (lines_in p) four)
        ended m e (got us rest) q = parsed m us rest e q
        ended m e (stop x rest) q =
            refused {x = faulty (place_of_left (length source) rest) x} (Ok m) e
            refl
            (rw q (sym (ap Err (fault_answer (place_of_left (length source) rest) x))))
            (rw q (sym (fault_left (place_of_left (length source) rest) x old)))

        go : (l : Result ℕ LexError) → ast.lex_answer source four ≡ l → Seen (parsed_by source jets l) (ast.left_by source jets four l)
        go (Err ShortTable) e = short e
        go (Err LongSource) e = refused {x = NotLexed LongSource} (Err LongSource) e refl refl refl
        go (Err (NotUtf8 at)) e = refused {x = NotLexed (NotUtf8 at)} (Err (NotUtf8 at)) e refl refl refl
        go (Err (NoToken at)) e = refused {x = NotLexed (NoToken at)} (Err (NoToken at)) e refl refl refl
        go (Err (TooManyTokens at)) e = refused {x = NotLexed (TooManyTokens at)} (Err (TooManyTokens at)) e refl refl refl
        go (Ok m) e = ended m e (parsing source jets) refl

    module _ (a : Result Counts ParseError) (ts' ls' es' ty' : List ℕ) (ea : a ≡ ast.parse_all source jets four) (et : tables ts' ls' es' ty' ≡ ast.tables_after source jets four) where
      new : ast.ParserTables
      new = tables ts' ls' es' ty'

      abbrev eight_with : ast.ParserTables → (names nodes errors work : List ℕ) → Tables
      eight_with t ns' xs' rs' ws' = record { parsed = t; names = ns'; nodes = xs'; errors = rs'; work = ws' }

      module _ (x : ParseError) (ex : a ≡ Err x) where
        pub untouched : changes_no_word x ≡ true → (Err x ≡ answer_of (read_into source jets old)) × (eight ts' ls' es' ty' ns xs rs ws ≡ read_tables (read_into source jets old) old)
        untouched u = go a (tables ts' ls' es' ty') (seen a (tables ts' ls' es' ty') ea et) ex
          where
            go : (a : Result Counts ParseError) (t : ast.ParserTables) → Seen a t → a ≡ Err x → (Err x ≡ answer_of (read_into source jets old)) × (eight_with t ns xs rs ws ≡ read_tables (read_into source jets old) old)
            go a t (short e) q = settled (Err ShortTable) (Err x) old e (ap Err (sym (err_same q))) refl
            go a t (refused l e c f g) q = absurd (yes_no (ap changes_no_word (sym (err_same q)) ∙ c) u)
            go a t (parsed m us rest e p) q = absurd (ok_err q)

        -- no records
        none_held : holding nothing old ≡ eight_with (ast.holding_lines [] [] four) (table_of name_width [] ns) (table_of node_width [] xs) (table_of error_width [] rs) (table_of work_width [] ws)
        unfolding holding line_records lines_exprs lines_types
        none_held = refl

        pub cleared : (ns' xs' rs' ws' : List ℕ) → changes_no_word x ≡ false → ns' ≡ table_of name_width [] ns → xs' ≡ table_of node_width [] xs → rs' ≡ table_of error_width [] rs → ws' ≡ table_of work_width [] ws
            → (Err x ≡ answer_of (read_into source jets old)) × (eight ts' ls' es' ty' ns' xs' rs' ws' ≡ read_tables (read_into source jets old) old)
        cleared ns' xs' rs' ws' u en ex' er ew = go a (tables ts' ls' es' ty') (seen a (tables ts' ls' es' ty') ea et) ex
          where
            go : (a : Result Counts ParseError) (t : ast.ParserTables) → Seen a t → a ≡ Err x → (Err x ≡ answer_of (read_into source jets old)) × (eight_with t ns' xs' rs' ws' ≡ read_tables (read_into source jets old) old)
            go a t (short e) q = absurd (yes_no u (ap changes_no_word (sym (err_same q)) ∙ refl))
            go a t (refused l e c f g) q = settled l (Err x) (eight_with (ast.holding_lines [] [] four) ns' xs' rs' ws') e (ap Err (sym (err_same q)) ∙ f) (rw (en, ex', er, ew) (sym none_held ∙ g))
            go a t (parsed m us rest e p) q = absurd (ok_err q)

      -- the lines of a source that was parsed
      abbrev found : List Line
      found = lines_in (parsing source jets)

      module _ (n : Counts) (u : a ≡ Ok n) where
        held : HeldLines source ls' es' n.lines found
        held = go a (tables ts' ls' es' ty') refl (seen a (tables ts' ls' es' ty') ea et) u
          where
            go : (a : Result Counts ParseError) (t : ast.ParserTables) → t ≡ tables ts' ls' es' ty' → Seen a t → a ≡ Ok n → HeldLines source ls' es' n.lines found
            go a t k (short e) q = absurd (ok_err (sym q))
            go a t k (refused l e c f g) q = absurd (ok_err (sym q))
            go a t k (parsed m us rest e p) q = at
              where
                lexed : (lexing source).answer ≡ Ok m
                lexed = ended (ast.short_to_parse four) refl
                  where
                    ended : (b : Bool) → ast.short_to_parse four ≡ b → (lexing source).answer ≡ Ok m
                    ended true h = absurd (ok_err (sym (rw h at e)))
                    ended false h = (lex_ended source ts (has_room (length ts) (length ls) (length es) (length ty) h).0 m (rw h at e)).0

                at : HeldLines source ls' es' n.lines found
                at =
                    record {
                      old = ls;
                      table = ap (λ (t : ast.ParserTables). t.lines) (sym k) ∙ rw p;
                      counted = let c : n ≡ ast.counts_of_lines (lexing source).tokens us = cc in rw (c, p);
                      held =
                          subst (λ (w : List ℕ). Held source w found) (ap (λ (t : ast.ParserTables). t.exprs) k)
                          (rw p (parsed_held (checks_of jets) source (lexing source).tokens us rest p (tokens_lie source m lexed).1 (omega (arith, (tiling source m lexed).1, tokens_few source m lexed)) es));
                    }

        pub read : (r : ReadCounts) (ns' xs' rs' ws' : List ℕ) → (HeldLines source ls' es' n.lines found → Resolves found n r ns ns' xs xs' rs rs' ws ws')
            → (Ok r ≡ answer_of (read_into source jets old)) × (eight ts' ls' es' ty' ns' xs' rs' ws' ≡ read_tables (read_into source jets old) old)
        read r ns' xs' rs' ws' f = go a (tables ts' ls' es' ty') (seen a (tables ts' ls' es' ty') ea et) u
          where
            d : Resolves found n r ns ns' xs xs' rs rs' ws ws'
            d = f held

            go : (a : Result Counts ParseError) (t : ast.ParserTables) → Seen a t → a ≡ Ok n → (Ok r ≡ answer_of (read_into source jets old)) × (eight_with t ns' xs' rs' ws' ≡ read_tables (read_into source jets old) old)
            go a t (short e) q = absurd (ok_err (sym q))
            go a t (refused l e c g h) q = absurd (ok_err (sym q))
            go a t (parsed m us rest e p) q =
                let c : n ≡ ast.counts_of_lines (lexing source).tokens us = cc in
                settled (Ok m) (Ok r) (eight_with (ast.holding_lines (lexing source).tokens us four) ns' xs' rs' ws') e
                (rw p (ap Ok (d.0 ∙ rw (c, p) (sym (counts_held (lexing source).tokens us)))))
                (rw (d.1, d.2, d.3, d.4, p) (sym (tables_held (lexing source).tokens us old)))
