-- `sheets::list_source` meets its contract: its tables are long enough.
use Prim.Native.Nat.{ℕ, ◌*◌}
use mathlib.Core.Path.{◌≡◌, ap}
use lib.ListN.{length, replicate, length-replicate}
use Rattle.records.specs.Limits.{record_limit, token_width, line_width, expr_width, type_width, name_width, node_width, error_width, work_width}
use Rattle.listing.specs.Listing.{listing}
use Rattle.listing.proofs.Texts.{listed_as}
use Rattle.sheets.proofs.Filled.{own_tables}
use Rattle.sheets.proofs.list_source.Goals as goal

zeros : (width : ℕ) → length {A = ℕ} (replicate (record_limit * width) 0) ≡ record_limit * width
zeros w = length-replicate (record_limit * w) 0

pub returns : goal.returns
returns c =
    let q = listed_as _ _ _ _ _ (ap (listing _) (own_tables _ _ _ _ _ _ _ _ _ _ (zeros token_width) (zeros line_width) (zeros expr_width) (zeros type_width) (zeros name_width) (zeros node_width) (zeros error_width) (zeros work_width))) c.list.ensures.answer c.list.ensures.output in
    record { answer = q.0; output = q.1 }
