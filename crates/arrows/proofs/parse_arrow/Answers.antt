-- `arrows::parse_arrow` meets its contract: by its source, by what follows, by its target. Assumes nothing.
use mathlib.Core.Path.{sym, ap, ◌∙◌}
use Rattle.records.proofs.Pairs.{passed_on}
use Rattle.checks.specs.Checks.{checks_of}
use Rattle.arrows.proofs.Arrows.{arrow_to, arrow_refused, arrow_unmet, arrow_met}
use Rattle.arrows.proofs.parse_arrow.Goals as goal

pub returns : goal.returns
returns c = λ jets ready. arrow_met _ _ _ _ ready (checks_of jets) _ _ _ (c.parse_type.ensures jets ready) _ _ _ c.in_ok-from.was c.expect.ensures _ _ _ _ c.in_ok-f.was (c.parse_type-2.ensures jets) (sym (ap (arrow_to c.in_ok-from.from) c.in_ok-to.was))

pub returns-in_err-from : goal.returns-in_err-from
returns-in_err-from c = λ jets ready. arrow_refused _ _ _ _ ready (checks_of jets) _ _ _ (c.parse_type.ensures jets ready) _ _ c.in_err-from.was (passed_on _ c.from_residual.ensures.1)

pub returns-in_err-f : goal.returns-in_err-f
returns-in_err-f c = λ jets ready. arrow_unmet _ _ _ _ ready (checks_of jets) _ _ _ (c.parse_type.ensures jets ready) _ _ _ c.in_ok-from.was c.expect.ensures _ _ c.in_err-f.was (passed_on _ c.from_residual-in_err-f.ensures.1)

pub returns-in_err-to : goal.returns-in_err-to
returns-in_err-to c = λ jets ready. arrow_met _ _ _ _ ready (checks_of jets) _ _ _ (c.parse_type.ensures jets ready) _ _ _ c.in_ok-from.was c.expect.ensures _ _ _ _ c.in_ok-f.was (c.parse_type-2.ensures jets) (passed_on _ c.from_residual-in_err-to.ensures.1 ∙ sym (ap (arrow_to c.in_ok-from.from) c.in_err-to.was))
