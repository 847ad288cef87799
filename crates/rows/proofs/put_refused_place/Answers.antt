-- `rows::put_refused_place` meets its contract.
use Rattle.rows.proofs.Pieces.{same_fits, same_adds}
use Rattle.rows.proofs.Single.{place_end, place_inside}
use Rattle.rows.proofs.put_refused_place.Goals as goal

pub put-requires : goal.put-requires
put-requires c = (same_fits (place_end _ _ c.if-refusal-place.true) c.requires).fits

pub put_place-requires : goal.put_place-requires
put_place-requires c = (same_fits (place_inside _ _ c.if-refusal-place.false) c.requires).fits

pub returns-else-refusal-place : goal.returns-else-refusal-place
returns-else-refusal-place c = same_adds (place_inside _ _ c.if-refusal-place.false) c.put_place.ensures

pub returns-then-refusal-place : goal.returns-then-refusal-place
returns-then-refusal-place c = same_adds (place_end _ _ c.if-refusal-place.true) c.put.ensures
