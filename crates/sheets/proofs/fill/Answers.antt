-- `sheets::fill` meets its contract: by the length of the jet list.
use Rattle.listing.proofs.Texts.{listed_as}
use Rattle.sheets.proofs.Filled.{jets_refused, jets_taken}
use Rattle.sheets.proofs.fill.Goals as goal

pub returns-else-jets-gt-JETS : goal.returns-else-jets-gt-JETS
returns-else-jets-gt-JETS c =
    let q = listed_as _ _ _ _ _ (jets_taken _ _ c.if-jets-gt-JETS.false) c.list_source.ensures.answer c.list_source.ensures.output in
    record { answer = q.0; output = q.1 }

pub returns-then-jets-gt-JETS : goal.returns-then-jets-gt-JETS
returns-then-jets-gt-JETS c =
    let q = listed_as _ _ _ _ _ (jets_refused _ _ c.if-jets-gt-JETS.true) c.refuse_jets.ensures.answer c.refuse_jets.ensures.output in
    record { answer = q.0; output = q.1 }
