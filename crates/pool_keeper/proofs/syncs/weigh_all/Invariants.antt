use Rattle.lane_passes.specs.Lanes.{Acted}
use Rattle.pool_keeper.specs.Syncs.{AreWeighed}
use Rattle.pool_keeper.proofs.syncs.weigh_all.Given as goal

abbrev pub invariant-loop-number : goal.invariant-loop-number
invariant-loop-number g l = Acted l.cells (λ x es. AreWeighed l.fn.passes.lane x l.number es) l.fn.passes l.passes
