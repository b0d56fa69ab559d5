use Rattle.std.proofs.Common.{arith}
use Rattle.seg_trees.proofs.Splices.{pieced-left, pieced-right}
use Rattle.seg_trees.proofs.runs.split.Goals as goal

pub returns-else-right-gt0-clause-items : goal.returns-else-right-gt0-clause-items
returns-else-right-gt0-clause-items c =
    pieced-left c.args.runs.now.items c.args.index c.args.left c.args.right (omega (arith, c.requires.index, c.args.runs.now.ok.0)) c.if-left-gt0.true (omega (arith, c.if-right-gt0.false))

pub returns-then-right-gt0-2-clause-items : goal.returns-then-right-gt0-2-clause-items
returns-then-right-gt0-2-clause-items c =
    pieced-right c.args.runs.now.items c.args.index c.args.left c.args.right (omega (arith, c.requires.index, c.args.runs.now.ok.0)) (omega (arith, c.if-left-gt0.false)) c.if-right-gt0-2.true
