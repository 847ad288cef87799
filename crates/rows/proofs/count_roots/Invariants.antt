-- `rows::count_roots` meets its contract. The loop's invariant: those counted and those left are all.
use Rattle.access.specs.Access.{is_root_at}
use Rattle.rows.proofs.Many.{CountLeft}
use Rattle.rows.proofs.count_roots.Given as goal

abbrev pub invariant-loop-number : goal.invariant-loop-number
invariant-loop-number l = CountLeft (is_root_at l.listed.names.now l.listed.named l.listed.nodes.now l.listed.made) l.listed.named l.number l.count
