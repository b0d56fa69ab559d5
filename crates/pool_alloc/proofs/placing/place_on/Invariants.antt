use Rattle.std.proofs.Common.{◌≡◌, List}
use Rattle.copy_walk.specs.Steps.{Step}
use Rattle.copy_walk.specs.Walks.{WasTold}
use Rattle.copy_walk.specs.Plans.{plan_of}
use Rattle.lane_passes.specs.Lanes.{Acted}
use Rattle.pool_alloc.proofs.Walking.{Walked}
use Rattle.pool_alloc.proofs.placing.place_on.Given as goal

abbrev pub invariant-loop : goal.invariant-loop
invariant-loop g l = record {
  steps : List Step;
  told : WasTold l.walk steps;
  acted : Acted l.cells (Walked (record { lane = l.fn.passes.lane; group = l.fn.group; size = l.fn.size }) l.earlier l.fn.class l.rotor steps) l.fn.passes l.passes;
  plan : l.walk.plan ≡ plan_of l.cells.vdevs l.fn.class l.rotor l.earlier;
  follows : g.L.Loader.follows l.fn.loader l.loader;
  count : g.L.Loader.refusals l.loader ≡ g.L.Loader.refusals l.fn.loader;
  last : g.L.Loader.last l.loader ≡ g.L.Loader.last l.fn.loader;
}
