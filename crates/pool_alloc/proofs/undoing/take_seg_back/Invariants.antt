use Rattle.std.proofs.Common.{◌+◌, ◌<◌, ◌≤◌, List}
use Rattle.lane_passes.specs.Lanes.{LaneEvent, Ground, Acted}
use Rattle.pool_alloc.specs.Undoing.{AreTaken}
use Rattle.pool_alloc.proofs.undoing.take_seg_back.Given as goal

abbrev pub invariant-loop : goal.invariant-loop
invariant-loop g l = record {
  acted : Acted l.cells (λ (ground : Ground) (es : List LaneEvent). AreTaken l.initial.passes.lane l.group l.id l.fn.seg.start ground l.start es) l.initial.passes l.passes;
  begins : l.fn.seg.start ≤ l.start;
  ends : l.start ≤ l.fn.seg.start + l.fn.seg.count;
  stops : l.stop ≤ l.fn.seg.start + l.fn.seg.count;
  some : l.start < l.fn.seg.start + l.fn.seg.count → l.start < l.stop;
}
