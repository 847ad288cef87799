-- `types::parse_type` and `types::parse_type_atom` meet their contracts. Assumes nothing.
use mathlib.Core.Path.{refl, sym, ◌∙◌}
use Rattle.records.proofs.Pairs.{ok_first, passed_on}
use Rattle.checks.specs.Checks.{checks_of}
use Rattle.types.proofs.Atoms.{atom_whole, atom_absent, atom_group, atom_refused}
use Rattle.types.proofs.Chain.{going_start, going_over, going_done, going_on, too_deep_law, from_depth}
use Rattle.types.proofs.+parse_type_parse_type_atom.Goals as goal

pub parse_type-returns-then-depth-eq0 : goal.parse_type-returns-then-depth-eq0
parse_type-returns-then-depth-eq0 t c = λ jets ready. too_deep_law (checks_of jets) _ _ _ _ _ c.if-depth-eq0.true _ _ c.refusal.ensures

pub parse_type-returns-in_default : goal.parse_type-returns-in_default
parse_type-returns-in_default t c = λ jets ready. going_over (checks_of jets) _ _ _ _ _ ready _ _ _ _ _ (c.loop-turn.invariant.1 jets _ _ ready _ (going_start (checks_of jets) _ _ _ _ _ ready _ _ _ _ (from_depth (checks_of jets) _ _ c.if-depth-eq0.false) (c.parse_type_atom-p.ensures jets ready))) (sym c.next_operator.ensures ∙ c.in_default.is)

pub parse_type-loop-turn-preserved : goal.parse_type-loop-turn-preserved
parse_type-loop-turn-preserved t c = (c.join-p.auto.types ∙ c.parse_type_atom-q.auto.types ∙ c.loop-turn.invariant.0, λ jets old d ready W h. going_on (checks_of jets) _ _ _ _ d ready W _ _ _ _ _ _ _ old _ _ _ c.loop-turn-test.true (c.loop-turn.invariant.1 jets old d ready W h) (sym c.next_operator.ensures ∙ c.in-Some.is) (c.parse_type_atom-q.ensures jets) c.join-p.ensures.answer c.join-p.ensures.table)

pub parse_type-returns : goal.parse_type-returns
parse_type-returns t c = λ jets ready. going_done (checks_of jets) _ _ _ _ _ ready _ _ _ _ _ c.loop-turn-test.false (c.loop-turn.invariant.1 jets _ _ ready _ (going_start (checks_of jets) _ _ _ _ _ ready _ _ _ _ (from_depth (checks_of jets) _ _ c.if-depth-eq0.false) (c.parse_type_atom-p.ensures jets ready)))

pub parse_type_atom-returns-in-Whole : goal.parse_type_atom-returns-in-Whole
parse_type_atom-returns-in-Whole t c = λ jets ready. atom_whole _ _ _ _ ready jets _ _ _ _ _ _ _ _ refl (c.type_head.ensures jets) (ok_first c.in_ok-head.was c.in-Whole.is) c.finish.ensures.answer c.finish.ensures.table

pub parse_type_atom-returns-in-Absent : goal.parse_type_atom-returns-in-Absent
parse_type_atom-returns-in-Absent t c = λ jets ready. atom_absent _ _ _ _ ready jets _ _ _ _ _ refl (c.type_head.ensures jets) (ok_first c.in_ok-head.was c.in-Absent.is)

pub parse_type_atom-returns-in-Group : goal.parse_type_atom-returns-in-Group
parse_type_atom-returns-in-Group t c = λ jets ready. atom_group _ _ _ _ ready jets _ _ _ _ _ _ _ _ refl (c.type_head.ensures jets) (ok_first c.in_ok-head.was c.in-Group.is) (c.parse_type-p.ensures jets) c.close.ensures

pub parse_type_atom-returns-in_err-head : goal.parse_type_atom-returns-in_err-head
parse_type_atom-returns-in_err-head t c = λ jets ready. atom_refused _ _ _ _ ready jets _ _ _ _ _ _ refl (c.type_head.ensures jets) c.in_err-head.was (passed_on _ c.from_residual.ensures.1)
