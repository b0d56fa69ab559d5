use Rattle.space_map.proofs.Batching.{SizedUpTo}
use Rattle.space_map.proofs.sizing.batch_size.Given as goal

abbrev pub invariant-loop-run : goal.invariant-loop-run
invariant-loop-run l = SizedUpTo l.at l.runs l.run-index l.size
