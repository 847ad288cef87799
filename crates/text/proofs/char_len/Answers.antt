-- `text::char_len` meets its contract: each return knows the tests that came before it. Assumes nothing.
use mathlib.Core.Path.{refl, ◌∙◌}
use Rattle.text.proofs.Laws.{by_tests, by_tests_law, char_answer}
use Rattle.text.proofs.char_len.Goals as goal

pub returns : goal.returns
unfolding by_tests
returns c =
    char_answer _ 0
    (by_tests_law _ c.requires _ _ _ _ c.byte_at-a.ensures c.byte_at-b.ensures c.byte_at-c.ensures c.byte_at.ensures ∙ simp (← c.is_one.ensures, c.if-is_one.false, ← c.is_two.ensures, c.if-is_two.false, ← c.is_three.ensures, c.if-is_three.false, ← c.is_four.ensures, c.if-is_four.false))

pub returns-then-is_four : goal.returns-then-is_four
unfolding by_tests
returns-then-is_four c =
    char_answer _ 4
    (by_tests_law _ c.requires _ _ _ _ c.byte_at-a.ensures c.byte_at-b.ensures c.byte_at-c.ensures c.byte_at.ensures ∙ simp (← c.is_one.ensures, c.if-is_one.false, ← c.is_two.ensures, c.if-is_two.false, ← c.is_three.ensures, c.if-is_three.false, ← c.is_four.ensures, c.if-is_four.true))

pub returns-then-is_one : goal.returns-then-is_one
unfolding by_tests
returns-then-is_one c =
    char_answer _ 1
    (by_tests_law _ c.requires _ _ _ _ c.byte_at-a.ensures refl refl refl ∙ simp (← c.is_one.ensures, c.if-is_one.true))

pub returns-then-is_three : goal.returns-then-is_three
unfolding by_tests
returns-then-is_three c =
    char_answer _ 3
    (by_tests_law _ c.requires _ _ _ _ c.byte_at-a.ensures c.byte_at-b.ensures c.byte_at-c.ensures refl ∙ simp (← c.is_one.ensures, c.if-is_one.false, ← c.is_two.ensures, c.if-is_two.false, ← c.is_three.ensures, c.if-is_three.true))

pub returns-then-is_two : goal.returns-then-is_two
unfolding by_tests
returns-then-is_two c =
    char_answer _ 2
    (by_tests_law _ c.requires _ _ _ _ c.byte_at-a.ensures c.byte_at-b.ensures refl refl ∙ simp (← c.is_one.ensures, c.if-is_one.false, ← c.is_two.ensures, c.if-is_two.true))
