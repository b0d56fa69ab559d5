use Rattle.std.proofs.Common.{◌≡◌, List}
use Rattle.lane_passes.specs.Lanes.{LaneEvent, Ground, Acted}
use Rattle.pool_alloc.specs.Frees.{AreUnloaded}
use Rattle.pool_alloc.proofs.frees.free_place.Given as goal

abbrev pub invariant-loop : goal.invariant-loop
invariant-loop g l = record {
  acted : Acted l.cells (λ (ground : Ground) (es : List LaneEvent). AreUnloaded l.hold.group l.id ground es) l.initial.passes l.passes;
  follows : g.L.Loader.follows l.initial.loader l.loader;
  count : g.L.Loader.refusals l.loader ≡ g.L.Loader.refusals l.initial.loader;
  last : g.L.Loader.last l.loader ≡ g.L.Loader.last l.initial.loader;
}
