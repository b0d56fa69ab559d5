use Rattle.std.proofs.Common.{length}
use Rattle.cmd_text.proofs.FileLemmas.{SoFar}
use Rattle.cmd_text.proofs.reading.read_front.Given as goal

abbrev pub invariant-loop-rest : goal.invariant-loop-rest
invariant-loop-rest l = SoFar l.text l.rest l.number l.reader

abbrev pub decreases-loop-rest : goal.decreases-loop-rest
decreases-loop-rest l = length l.rest
