use Rattle.std.proofs.Common.{◌≡◌, ◌+◌, ◌≤◌, length, map, vec_len}
use Rattle.std.specs.Prelude.{reverse}
use Rattle.std.specs.Vec.{vec_capacity}
use Rattle.pool_lanes.proofs.Taking.{AreLeft}
use Rattle.pool_lanes.proofs.merging.merge.Given as goal

abbrev pub decreases-loop-at : goal.decreases-loop-at
decreases-loop-at l = l.at

abbrev pub invariant-loop-at : goal.invariant-loop-at
invariant-loop-at l = record {
  most : l.at ≤ length l.commands;
  room : length l.commands ≤ vec_capacity l.replies;
  count : vec_len l.replies + l.at ≡ length l.commands;
  left : AreLeft l.commands (map (λ list. list.items) l.fn.lists.items) l.at (map (λ list. list.items) l.lists.items) (reverse l.replies.items);
}
