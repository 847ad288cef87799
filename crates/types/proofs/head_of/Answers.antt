-- `types::head_of` meets its contract: by the kind of the token. Assumes nothing.
use native.Mathlib.Omega.{arith}
use Rattle.types.proofs.Heads.{head_none}
use Rattle.types.proofs.head_of.Goals as goal

pub returns-in_default : goal.returns-in_default
returns-in_default c = λ jets rest own. head_none c.args.source.now jets c.args.t rest c.args.c ((((((tt, λ h. omega arith), λ h. omega arith), λ h. omega arith), λ h. omega arith), λ h. omega arith), λ h. omega arith)
