-- `tables::word` meets its contract: by the number, then by the place. Assumes nothing.
use Rattle.std.proofs.Common.{rules}
use mathlib.Core.Path.{refl, sym, ◌∙◌}
use Rattle.tables.proofs.Words.{word_none, word_past, word_here}
use Rattle.tables.proofs.word.Goals as goal

pub returns : goal.returns
returns c =
    word_here _ _ _ _ _ _ _ (sym c.is_number.ensures ∙ c.if-not-is_number.false) c.if-width-place.false
    c.begin.ensures.0 refl (search rules)

pub returns-then-not-is_number : goal.returns-then-not-is_number
returns-then-not-is_number c = sym (word_none _ _ _ _ (sym c.is_number.ensures ∙ c.if-not-is_number.true))

pub returns-then-width-place : goal.returns-then-width-place
returns-then-width-place c = sym (word_past _ _ _ _ (sym c.is_number.ensures ∙ c.if-not-is_number.false) c.if-width-place.true)
