-- `lex::lex_next` meets its contract: by what `lex_one` found.
use native.Mathlib.Omega.{arith}
use Rattle.lex.proofs.Steps.{asked, skip_fits, token_fits}
use Rattle.lex.proofs.lex_next.Goals as goal

pub overflow_add-result : goal.overflow_add-result
overflow_add-result c = omega (arith, (skip_fits c.args.source.now c.args.at c.requires.0 _ (asked c.args.source.now c.args.at _ _ c.lex_one.ensures c.in-Skip.is)).1)

pub overflow_add-result-in-Token : goal.overflow_add-result-in-Token
overflow_add-result-in-Token c = omega (arith, (token_fits c.args.source.now c.args.at c.requires.0 _ _ (asked c.args.source.now c.args.at _ _ c.lex_one.ensures c.in-Token.is)).1)

pub token_record-requires : goal.token_record-requires
token_record-requires c =
    let f = token_fits c.args.source.now c.args.at c.requires.0 _ _ (asked c.args.source.now c.args.at _ _ c.lex_one.ensures c.in-Token.is) in
    (omega (arith, c.requires), omega (arith, f.1, c.requires))
