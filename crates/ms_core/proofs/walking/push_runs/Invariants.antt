use Rattle.std.proofs.Common.{◌≡◌, ◌-◌}
use Rattle.ms_core.proofs.Words.{vec_capacity, number_of}
use Rattle.ms_core.proofs.WalkedRuns.{Walks}
use Rattle.ms_core.proofs.walking.push_runs.Given as goal

abbrev pub invariant-loop-run : goal.invariant-loop-run
invariant-loop-run g l = Walks (g.R.SegTrees.set l.trees (number_of l.tree)) 131072 l.at l.out.items × (vec_capacity l.out ≡ vec_capacity l.fn.out)

abbrev pub decreases-loop-run : goal.decreases-loop-run
decreases-loop-run g l = 131072 - l.at
