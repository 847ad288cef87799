-- `arrows::parse_optional_arrow` meets its contract: by whether `:` follows. Assumes nothing.
use Rattle.checks.specs.Checks.{checks_of}
use Rattle.arrows.proofs.Arrows.{no_arrow, an_arrow}
use Rattle.arrows.proofs.parse_optional_arrow.Goals as goal

pub returns-in-Ok : goal.returns-in-Ok
returns-in-Ok c = λ jets ready. an_arrow _ _ _ _ ready (checks_of jets) _ c.expect.ensures _ _ _ _ c.in-Ok.is (c.parse_arrow.ensures jets)

pub returns-in-Err : goal.returns-in-Err
returns-in-Err c = λ jets ready. no_arrow _ _ _ _ ready (checks_of jets) _ c.expect.ensures _ _ c.in-Err.is
