-- `rows::count_roots` meets its contract. The loop's invariant: those counted and those left are all.
use native.Mathlib.Omega.{arith}
use Rattle.rows.proofs.Many.{count_one, count_same, count_done}
use Rattle.rows.proofs.count_roots.Goals as goal
use Rattle.rows.proofs.count_roots.Goals.{then-is_root, else-is_root}

pub loop-number-preserved : goal.loop-number-preserved
loop-number-preserved c = elim c.if-is_root.branch [
  | then-is_root w ↦ rw w.count-is (count_one c.loop-number.invariant c.loop-number-test.true c.is_root.ensures w.if-is_root.true)
  | else-is_root w ↦ rw w.count-is (count_same c.loop-number.invariant c.loop-number-test.true c.is_root.ensures w.if-is_root.false)
]

pub returns : goal.returns
returns c = count_done c.loop-number.invariant c.loop-number-test.false

pub returns-after-is_root : goal.returns-after-is_root
returns-after-is_root c = elim c.if-is_root.branch [
  | then-is_root w ↦ rw w.count-is (count_done (count_one c.loop-number.invariant c.loop-number-test.true c.is_root.ensures w.if-is_root.true) (omega arith))
  | else-is_root w ↦ rw w.count-is (count_done (count_same c.loop-number.invariant c.loop-number-test.true c.is_root.ensures w.if-is_root.false) (omega arith))
]
