-- No sum of `replay_all` grows by more than 2^32 for each case.
use Rattle.std.proofs.Common.{◌≤◌, ◌*◌, ◌^◌}
use Rattle.vectors.proofs.replay_all.Given as goal

abbrev pub invariant-loop-number : goal.invariant-loop-number
invariant-loop-number g l = (l.all.texts ≤ l.number) × (l.all.places ≤ l.number * 2 ^ 32) × (l.all.bad ≤ l.number)
