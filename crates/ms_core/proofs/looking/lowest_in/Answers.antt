use Rattle.std.proofs.Common.{◌+◌, get_or, take, sym}
use Rattle.ms_core.proofs.Words.{◌||◌, list_any_more, in_any, number_of, Allocatable}
use Rattle.ms_core.proofs.Lookback.{finds_along}
use Rattle.ms_core.proofs.looking.lowest_in.Goals as goal

pub loop-tree-preserved : goal.loop-tree-preserved
loop-tree-preserved g c =
    let set = g.R.SegTrees.set c.args.trees.now in
    let names = c.args.names.now in
    let i = c.loop-tree.tree-index in
    finds_along (λ u. in_any set (take i names) u || set (number_of (get_or names i Allocatable)) u) (in_any set (take (i + 1) names)) c.args.seg _
    (λ u. sym (list_any_more (λ tree. set (number_of tree) u) names i Allocatable c.loop-tree-test.true))
    (c.lower-found.ensures (in_any set (take i names)) (set (number_of (get_or names i Allocatable))) c.loop-tree.invariant (c.meets.ensures.lowest, c.meets.ensures.none))
