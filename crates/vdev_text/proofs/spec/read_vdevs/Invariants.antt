use Rattle.std.proofs.Common.{length}
use Rattle.vdev_text.proofs.SpecLemmas.{SoFar}
use Rattle.vdev_text.proofs.spec.read_vdevs.Given as goal

abbrev pub invariant-loop-one : goal.invariant-loop-one
invariant-loop-one l = SoFar l.text l.rest l.vdevs

abbrev pub decreases-loop-one : goal.decreases-loop-one
decreases-loop-one l = length l.rest
