use Rattle.std.proofs.Common.{◌-◌, length}
use Rattle.copy_walk.specs.Walked.{ArePassed}
use Rattle.copy_walk.proofs.rounds.first_open.Given as goal

abbrev pub invariant-loop-stop : goal.invariant-loop-stop
invariant-loop-stop l = ArePassed l.route l.marks l.round l.index

abbrev pub decreases-loop-stop : goal.decreases-loop-stop
decreases-loop-stop l = length l.route - l.round
