use Rattle.std.proofs.Common.{arith}
use Rattle.ms_core.proofs.Narrowing.{nodes_most}
use Rattle.ms_core.proofs.stepping.nodes.Goals as goal

pub returns-clause-few : goal.returns-clause-few
returns-clause-few g c = omega (arith, c.nodes.ensures, nodes_most (g.R.SegTrees.set c.args.trees.now c.number.result))
