-- P1 to P12: by computing.
use Prim.Native.Nat.{ℕ}
use mathlib.Core.Path.{◌≡◌, refl}
use mathlib.Core.List.{map}
use Rattle.text.specs.Check.{char_len, check_from}
use Rattle.text.specs.Place.{pass, position_of}
use Rattle.errors.proofs.Examples as errors
use Rattle.reader.specs.Reading.{contents, reading}
use Rattle.access.specs.Roots.{is_root, roots}
use Rattle.print.specs.Text.{digits, decimal, printed_row, place_word}
use Rattle.rows.specs.Rows.{node_word, error_word, head_row, name_word, unless_zero, node_row, node_rows, root_row, root_rows, error_row, error_rows, refused_place, refused_row, name_in, listed}
use Rattle.listing.specs.Listing.{listing}
use Rattle.examples.specs.Twelve.{Example, answer, examples}

-- where `opened` unfolds, all of these compute
unfoldable opened : ℕ
unfolding errors.opened char_len check_from pass position_of contents reading is_root roots digits decimal printed_row place_word node_word error_word head_row name_word unless_zero node_row node_rows root_row root_rows error_row error_rows refused_place refused_row name_in listed listing answer
opened = 0

pub twelve_hold : map (λ (e : Example). answer e.question) examples ≡ map (λ (e : Example). e.expected) examples
unfolding opened
twelve_hold = refl
