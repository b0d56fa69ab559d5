use Rattle.zdb_report.proofs.GapWalk.{Walked}
use Rattle.zdb_report.proofs.gaps.vacant_histogram.Given as goal

abbrev pub invariant-loop-seg : goal.invariant-loop-seg
invariant-loop-seg l = Walked l.held l.units l.ashift l.seg-index l.at l.hist
