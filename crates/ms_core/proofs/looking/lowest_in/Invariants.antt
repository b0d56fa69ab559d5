use Rattle.std.proofs.Common.{take}
use Rattle.ms_core.proofs.Words.{Finds, in_any}
use Rattle.ms_core.proofs.looking.lowest_in.Given as goal

abbrev pub invariant-loop-tree : goal.invariant-loop-tree
invariant-loop-tree g l = Finds (in_any (g.R.SegTrees.set l.trees) (take l.tree-index l.names)) l.seg l.found
