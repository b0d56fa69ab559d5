use Rattle.seg_trees.proofs.Sizes.{nodes_of-covered}
use Rattle.seg_trees.proofs.run_vec.RunVec.remove.Goals as goal

pub returns-clause-whole : goal.returns-clause-whole
returns-clause-whole c = nodes_of-covered c.carve.new.runs.items c.carve.ensures.apart
