use Rattle.std.proofs.Common.{length, ap, arith}
use Rattle.seg_trees.specs.OneSet.{OneSet}
use Rattle.seg_trees.proofs.Elements.{two_runs}
use Rattle.seg_trees.proofs.plain.merge_two.Goals as goal

pub merge-requires-clause-room : goal.merge-requires-clause-room
merge-requires-clause-room c =
    let first = ap (λ (t : OneSet). length t.runs) c.index-trees-from.is in
    let second = ap (λ (t : OneSet). length t.runs) c.index-trees-into.is in
    omega (arith, two_runs c.args.trees.now c.args.from c.args.into c.index-trees-from.result c.index-trees-into.result c.requires.differ c.requires.from c.requires.into, c.requires.room)
