use Rattle.zdb_report.proofs.Fragments.{AreSums}
use Rattle.zdb_report.proofs.fragmentation.fragmentation_of.Given as goal

abbrev pub invariant-loop-bucket : goal.invariant-loop-bucket
invariant-loop-bucket l = AreSums l.hist l.bucket l.all l.fragmented
