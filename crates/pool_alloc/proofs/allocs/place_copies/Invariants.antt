use Rattle.std.proofs.Common.{◌≡◌, List, length}
use Rattle.lane_passes.specs.Lanes.{LaneEvent, Ground, Acted}
use Rattle.pool_alloc.specs.Cuts.{AllLaid}
use Rattle.pool_alloc.specs.Places.{ArePlaced}
use Rattle.pool_alloc.proofs.allocs.place_copies.Given as goal

abbrev pub invariant-loop : goal.invariant-loop
invariant-loop g l = record {
  acted : Acted l.cells (λ (ground : Ground) (es : List LaneEvent). ArePlaced (record { lane = l.initial.passes.lane; group = l.group; size = l.size }) l.class ground l.placed es) l.initial.passes l.passes;
  laid : AllLaid l.cells.vdevs l.placed;
  tried : length l.placed ≡ l.counter;
  follows : g.L.Loader.follows l.initial.loader l.loader;
  count : g.L.Loader.refusals l.loader ≡ g.L.Loader.refusals l.initial.loader;
  last : g.L.Loader.last l.loader ≡ g.L.Loader.last l.initial.loader;
}
