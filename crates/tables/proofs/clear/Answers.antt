-- `tables::clear` meets its contract. The loop's invariant: the words that are left, set to zero in the table as it is now,
-- give the whole.
use Prim.Native.Nat.{◌+◌, ◌*◌, ◌/◌}
use mathlib.Core.Path.{◌≡◌, sym, ◌∙◌}
use native.Mathlib.Omega.{arith}
use Rattle.tables.proofs.Zeros.{zeroed_split, cleared}
use Rattle.tables.proofs.clear.Goals as goal

pub loop-block-preserved : goal.loop-block-preserved
loop-block-preserved c =
    let next : (c.loop-block.block + 1) * 64 ≡ c.loop-block.block * 64 + 64 = omega arith in
    rw next (c.loop-block.invariant ∙ zeroed_split _ _ _ _ _ (omega arith) (omega arith) c.zero_again.ensures)

pub returns : goal.returns
returns c =
    let all : c.min-count.result / 64 ≡ c.loop-block.block = omega arith in
    c.zero.ensures
    ∙ rw all (sym c.loop-block.invariant)
    ∙ cleared c.args.width c.min-count.result c.args.table.now (omega arith)
