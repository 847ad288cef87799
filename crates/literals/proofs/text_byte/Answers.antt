-- `literals::text_byte` meets its contract: by the prefix.
use mathlib.Core.Path.{sym, ◌∙◌}
use native.Mathlib.Omega.{arith}
use Rattle.literals.proofs.Packed.{digits_some, digits_every, text_bin, text_hex, text_none}
use Rattle.literals.proofs.text_byte.Goals as goal

pub bin_byte-requires : goal.bin_byte-requires
bin_byte-requires c = (digits_every _ _ _ (sym c.is_digits.ensures ∙ c.if-is_digits.true), omega arith)

pub hex_byte-requires : goal.hex_byte-requires
hex_byte-requires c = (digits_every _ _ _ (sym c.is_digits-2.ensures ∙ c.if-is_digits-2.true), omega arith)

pub returns : goal.returns
returns c = sym (text_none _ _ (sym c.is_digits.ensures ∙ c.if-is_digits.false) (sym c.is_digits-2.ensures ∙ c.if-is_digits-2.false))

pub returns-then-is_digits : goal.returns-then-is_digits
returns-then-is_digits c = c.bin_byte.ensures ∙ sym (text_bin _ _ (sym c.is_digits.ensures ∙ c.if-is_digits.true))

pub returns-then-is_digits-2 : goal.returns-then-is_digits-2
returns-then-is_digits-2 c = c.hex_byte.ensures ∙ sym (text_hex _ _ (sym c.is_digits.ensures ∙ c.if-is_digits.false) (sym c.is_digits-2.ensures ∙ c.if-is_digits-2.true))

pub slice_bounds-bin_byte-count : goal.slice_bounds-bin_byte-count
slice_bounds-bin_byte-count c = omega (arith, digits_some _ _ _ (sym c.is_digits.ensures ∙ c.if-is_digits.true))

pub slice_bounds-bin_byte-start : goal.slice_bounds-bin_byte-start
slice_bounds-bin_byte-start c = omega (arith, digits_some _ _ _ (sym c.is_digits.ensures ∙ c.if-is_digits.true))

pub slice_bounds-hex_byte-count : goal.slice_bounds-hex_byte-count
slice_bounds-hex_byte-count c = omega (arith, digits_some _ _ _ (sym c.is_digits-2.ensures ∙ c.if-is_digits-2.true))

pub slice_bounds-hex_byte-start : goal.slice_bounds-hex_byte-start
slice_bounds-hex_byte-start c = omega (arith, digits_some _ _ _ (sym c.is_digits-2.ensures ∙ c.if-is_digits-2.true))
