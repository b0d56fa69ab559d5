use Rattle.std.proofs.Common.{◌≡◌, List, take}
use Rattle.std.specs.Prelude.{map}
use Rattle.lane_passes.specs.Lanes.{LaneEvent, Ground, Acted}
use Rattle.pool_alloc.specs.Frees.{AreFreed, place_of}
use Rattle.pool_alloc.proofs.frees.free_copies.Given as goal

abbrev pub invariant-loop-place : goal.invariant-loop-place
invariant-loop-place g l = record {
  acted : Acted l.cells (λ (ground : Ground) (es : List LaneEvent). AreFreed l.initial.passes.lane l.hold.group ground (map place_of (take l.place l.copies)) es) l.initial.passes l.passes;
  follows : g.L.Loader.follows l.initial.loader l.loader;
  count : g.L.Loader.refusals l.loader ≡ g.L.Loader.refusals l.initial.loader;
  last : g.L.Loader.last l.loader ≡ g.L.Loader.last l.initial.loader;
}
