-- `reader::read` meets its contract: by the room, then by how parsing ended.
use Rattle.reader.proofs.Whole.{roomy, too_short, untouched, cleared, read}
use mathlib.Core.Path.{sym, ◌∙◌}
use Rattle.reader.proofs.read.Goals as goal

pub clear_resolved-requires : goal.clear_resolved-requires
clear_resolved-requires c = roomy _ _ _ _ (sym c.is_short.ensures ∙ c.if-is_short.false)

pub resolve_lines-requires : goal.resolve_lines-requires
resolve_lines-requires c = roomy _ _ _ _ (sym c.is_short.ensures ∙ c.if-is_short.false)

pub returns-in-Ok : goal.returns-in-Ok
returns-in-Ok c =
    let q = read _ _ _ _ _ _ _ _ _ _ (sym c.is_short.ensures ∙ c.if-is_short.false) _ _ _ _ _ c.parse_line_vector.ensures.answer c.parse_line_vector.ensures.tables _ c.in-Ok.is _ _ _ _ _ (c.resolve_lines.ensures _) in
    record { answer = q.0; tables = q.1 }

pub returns-in-Err : goal.returns-in-Err
returns-in-Err c =
    let q = untouched _ _ _ _ _ _ _ _ _ _ (sym c.is_short.ensures ∙ c.if-is_short.false) _ _ _ _ _ c.parse_line_vector.ensures.answer c.parse_line_vector.ensures.tables _ c.in-Err.is (sym c.changes_no_word.ensures ∙ c.if-changes_no_word.true) in
    record { answer = q.0; tables = q.1 }

pub returns-in-Err-2 : goal.returns-in-Err-2
returns-in-Err-2 c =
    let q = cleared _ _ _ _ _ _ _ _ _ _ (sym c.is_short.ensures ∙ c.if-is_short.false) _ _ _ _ _ c.parse_line_vector.ensures.answer c.parse_line_vector.ensures.tables _ c.in-Err.is _ _ _ _ (sym c.changes_no_word.ensures ∙ c.if-changes_no_word.false) c.clear_resolved.ensures.names c.clear_resolved.ensures.nodes c.clear_resolved.ensures.errors c.clear_resolved.ensures.work in
    record { answer = q.0; tables = q.1 }

pub returns-then-is_short : goal.returns-then-is_short
returns-then-is_short c =
    let q = too_short _ _ _ _ _ _ _ _ _ _ (sym c.is_short.ensures ∙ c.if-is_short.true) in
    record { answer = q.0; tables = q.1 }
