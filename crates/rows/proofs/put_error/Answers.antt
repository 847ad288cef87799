-- `rows::put_error` meets its contract.
use mathlib.Core.Path.{refl}
use Rattle.rows.proofs.Pieces.{first_fits, rest_fits, adds_then, same_fits, same_adds}
use Rattle.rows.proofs.Single.{error_pieces}
use Rattle.rows.proofs.put_error.Goals as goal

pub put_word-requires : goal.put_word-requires
put_word-requires c = first_fits _ (same_fits (error_pieces _ _ _ c.word-kind.ensures c.error_word.ensures c.word-start.ensures c.span-name.ensures refl) c.requires)

pub put_offset-requires : goal.put_offset-requires
put_offset-requires c = first_fits _ (rest_fits c.put_word.ensures (same_fits (error_pieces _ _ _ c.word-kind.ensures c.error_word.ensures c.word-start.ensures c.span-name.ensures refl) c.requires))

pub put_word-requires-2 : goal.put_word-requires-2
put_word-requires-2 c = rest_fits c.put_offset.ensures (rest_fits c.put_word.ensures (same_fits (error_pieces _ _ _ c.word-kind.ensures c.error_word.ensures c.word-start.ensures c.span-name.ensures c.span_text.ensures) c.requires))

pub returns : goal.returns
returns c = same_adds (error_pieces _ _ _ c.word-kind.ensures c.error_word.ensures c.word-start.ensures c.span-name.ensures c.span_text.ensures) (adds_then c.put_word.ensures (adds_then c.put_offset.ensures c.put_word-2.ensures))
