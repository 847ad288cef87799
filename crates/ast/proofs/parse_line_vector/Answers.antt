-- `ast::parse_line_vector` meets its contract: by the room, by the lexer, by the grammar. Assumes nothing.
use mathlib.Core.Path.{sym, ap, ◌∙◌}
use Rattle.records.proofs.Pairs.{passed_on}
use Rattle.ast.specs.Parsing.{parsed_of}
use Rattle.ast.proofs.Whole.{has_room, too_short, not_lexed, source_short, count_few, tokens_long, lexed}
use Rattle.ast.proofs.parse_line_vector.Goals as goal

pub clear_parsed-requires : goal.clear_parsed-requires
clear_parsed-requires c = let r = has_room _ _ _ _ (sym c.is_short.ensures ∙ c.if-is_short.false) in (r.1, r.2, r.3)

pub parse_lexed-requires : goal.parse_lexed-requires
parse_lexed-requires c =
    let no = sym c.is_short.ensures ∙ c.if-is_short.false in
    let r = has_room _ _ _ _ no in (
      source_short c.args.source.now c.args.jets.now c.args.tokens.now c.args.lines.now c.args.exprs.now c.args.types.now no _ _ (sym c.lex_all.ensures.answer ∙ c.in-Ok.is) c.lex_all.ensures.table,
      count_few c.args.source.now c.args.jets.now c.args.tokens.now c.args.lines.now c.args.exprs.now c.args.types.now no _ _ (sym c.lex_all.ensures.answer ∙ c.in-Ok.is) c.lex_all.ensures.table,
      tokens_long c.args.source.now c.args.jets.now c.args.tokens.now c.args.lines.now c.args.exprs.now c.args.types.now no _ _ (sym c.lex_all.ensures.answer ∙ c.in-Ok.is) c.lex_all.ensures.table,
      r.1,
      r.2,
      r.3,
    )

pub returns-in-Err : goal.returns-in-Err
returns-in-Err c =
    let q = not_lexed _ _ _ _ _ _ (sym c.is_short.ensures ∙ c.if-is_short.false) _ _ _ _ _ (sym c.lex_all.ensures.answer ∙ c.in-Err.is) c.lex_all.ensures.table c.clear_parsed.ensures.lines c.clear_parsed.ensures.exprs c.clear_parsed.ensures.types in
    record { answer = q.0; tables = q.1 }

pub returns-in_ok-counts-in-Ok : goal.returns-in_ok-counts-in-Ok
returns-in_ok-counts-in-Ok c =
    let q = lexed _ _ _ _ _ _ (sym c.is_short.ensures ∙ c.if-is_short.false) _ _ (sym c.lex_all.ensures.answer ∙ c.in-Ok.is) c.lex_all.ensures.table _ _ _ _ _ c.parse_lexed.ensures.answer c.parse_lexed.ensures.tokens c.parse_lexed.ensures.lines c.parse_lexed.ensures.exprs c.parse_lexed.ensures.types in
    record { answer = sym (ap parsed_of c.in_ok-counts-in-Ok.was) ∙ q.0; tables = q.1 }

pub returns-in_err-counts-in-Ok : goal.returns-in_err-counts-in-Ok
returns-in_err-counts-in-Ok c =
    let q = lexed _ _ _ _ _ _ (sym c.is_short.ensures ∙ c.if-is_short.false) _ _ (sym c.lex_all.ensures.answer ∙ c.in-Ok.is) c.lex_all.ensures.table _ _ _ _ _ c.parse_lexed.ensures.answer c.parse_lexed.ensures.tokens c.parse_lexed.ensures.lines c.parse_lexed.ensures.exprs c.parse_lexed.ensures.types in
    record { answer = passed_on _ c.from_residual.ensures.1 ∙ sym (ap parsed_of c.in_err-counts-in-Ok.was) ∙ q.0; tables = q.1 }

pub returns-then-is_short : goal.returns-then-is_short
returns-then-is_short c =
    let q = too_short _ _ _ _ _ _ (sym c.is_short.ensures ∙ c.if-is_short.true) in
    record { answer = q.0; tables = q.1 }
