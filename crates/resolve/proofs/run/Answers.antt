-- `resolve::run` meets its contract: the loop goes on as `Going` says. Assumes nothing.
use mathlib.Core.Path.{sym, ◌∙◌}
use native.Mathlib.Omega.{arith}
use Rattle.resolve.proofs.Running.{going_none, going_more, going_ends}
use Rattle.resolve.proofs.Turning.{no_way}
use Rattle.resolve.proofs.run.Goals as goal

pub loop-init : goal.loop-init
loop-init c = going_none _ _ _ _ _ _ _

pub loop-preserved : goal.loop-preserved
loop-preserved c = let u = sym c.is_running.ensures ∙ c.if-not-is_running.false in going_more _ _ _ _ _ _ _ _ _ _ _ _ _ _ _ _ u (c.turn-h.ensures u) c.loop.invariant

pub returns-after-loop : goal.returns-after-loop
returns-after-loop c = going_ends _ _ _ _ _ _ _ _ _ _ _ _ (λ l u. omega (arith, c.loop-test.false)) c.loop.invariant

pub returns-then-not-is_running : goal.returns-then-not-is_running
returns-then-not-is_running c = going_ends _ _ _ _ _ _ _ _ _ _ _ _ (λ l u. no_way u (sym c.is_running.ensures ∙ c.if-not-is_running.true)) c.loop.invariant
