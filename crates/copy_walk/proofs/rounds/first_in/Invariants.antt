use Rattle.copy_walk.specs.Walked.{AreMarked}
use Rattle.copy_walk.proofs.rounds.first_in.Given as goal

abbrev pub invariant-loop-index : goal.invariant-loop-index
invariant-loop-index l = AreMarked l.stop l.marks l.from l.index
