use Rattle.class_core.specs.Rankings.{HasBelow}
use Rattle.class_core.proofs.ranking.Ranking.of.Given as goal

abbrev pub invariant-loop-index : goal.invariant-loop-index
invariant-loop-index l = HasBelow l.index l.weights l.ranking
