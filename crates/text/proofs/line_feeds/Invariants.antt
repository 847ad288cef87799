-- `text::line_feeds` meets its contract. The loop's invariant: with those of the bytes that are left it is the whole count. Assumes
-- nothing.
use Prim.Native.Nat.{◌+◌, ◌≤◌}
use mathlib.Core.Path.{◌≡◌}
use lib.ListN.{drop}
use Rattle.text.proofs.Places.{feeds}
use Rattle.text.proofs.line_feeds.Given as goal

abbrev pub invariant-loop-byte : goal.invariant-loop-byte
invariant-loop-byte l = (l.feeds ≤ l.byte-index) × (feeds l.block ≡ l.feeds + feeds (drop l.byte-index l.block))
