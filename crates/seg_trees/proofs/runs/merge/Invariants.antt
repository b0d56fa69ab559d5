use Rattle.std.proofs.Common.{length, ◌-◌, ◌+◌, ◌≡◌, ◌≤◌}
use Rattle.std.specs.Vec.{vec_len, vec_capacity}
use Rattle.seg_trees.proofs.Merging.{IsMerged}
use Rattle.seg_trees.proofs.runs.merge.Given as goal

abbrev pub invariant-loop-taken : goal.invariant-loop-taken
invariant-loop-taken l = record {
  merged : IsMerged l.first l.second l.taken l.used l.out.items;
  len : vec_len l.out ≤ l.taken + l.used;
  capacity : vec_capacity l.out ≡ vec_capacity l.initial.out;
}

abbrev pub decreases-loop-taken : goal.decreases-loop-taken
decreases-loop-taken l = (length l.first - l.taken) + (length l.second - l.used)
