-- `text::check_text` meets its contract. The loop's invariant: the answer is that for the text from `i` on.
use mathlib.Core.Path.{sym, ◌∙◌}
use native.Mathlib.Omega.{arith}
use lib.ListN.{length-take, length-drop}
use Rattle.text.proofs.Laws.{check_bad, check_more, check_end}
use Rattle.text.proofs.check_text.Goals as goal

pub loop-i-preserved : goal.loop-i-preserved
loop-i-preserved c = (
  omega (arith, simp (length-take, length-drop) at c.char_len-n.ensures.1),
  c.loop-i.invariant.1 ∙ check_more _ _ _ c.loop-i-test.true c.char_len-n.ensures.0 c.if-n-eq0.false,
)

pub returns : goal.returns
returns c = sym (c.loop-i.invariant.1 ∙ check_end _ _ c.loop-i-test.false)

pub returns-then-n-eq0 : goal.returns-then-n-eq0
returns-then-n-eq0 c = sym (c.loop-i.invariant.1 ∙ check_bad _ _ _ c.loop-i-test.true c.char_len-n.ensures.0 c.if-n-eq0.true)
