use Rattle.std.proofs.Common.{◌+◌, ◌≤◌, arith}
use Rattle.seg_trees.specs.Kept.{sets_of}
use Rattle.seg_trees.specs.Sets.{nodes_of}
use Rattle.range_tree.proofs.Descents.{descent_below}
use Rattle.tree_rows.proofs.runs.best_of_thousand.Goals as goal

pub returns : goal.returns
returns g c = omega (arith, c.best.ensures.steps, descent_below (nodes_of (sets_of c.args.trees.now.lists 0)) 10 (omega (arith, c.requires)))
