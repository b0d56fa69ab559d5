use Rattle.std.proofs.Common.{◌≡◌, ◌≤◌, List, length, take}
use Rattle.lane_passes.specs.Lanes.{LaneEvent, Ground, Acted}
use Rattle.pool_alloc.specs.Undoing.{AreUndone}
use Rattle.pool_alloc.specs.Undone.{late_of}
use Rattle.pool_alloc.proofs.undoing.take_copies_back.Given as goal

abbrev pub invariant-loop-place : goal.invariant-loop-place
invariant-loop-place g l = record {
  undone : Acted l.cells (λ (ground : Ground) (es : List LaneEvent). AreUndone l.initial.passes.lane l.group ground (take l.place l.copies) l.left (late_of l.first) es) l.initial.passes l.passes;
  few : length l.left ≤ l.place;
  refusal : l.refusal ≡ l.initial.refusal;
}
