use Rattle.std.proofs.Common.{◌+◌, ◌<◌, arith, ap, subst}
use Rattle.zms_units.specs.declared.segments.Seg.{Seg}
use Rattle.std.proofs.lemmas.Bool.{ltb-true}
use Rattle.range_tree.specs.Kept.{seg_of}
use Rattle.range_tree.specs.Found.{FindsEnding, IsFirstEnding}
use Rattle.range_tree.proofs.Joining.{listed_used, alone_before, alone_last}
use Rattle.range_tree.proofs.changing.is_alone.Goals as goal

pub node-requires : goal.node-requires
node-requires c =
    let f : IsFirstEnding c.args.pool.now c.args.tree.now c.args.seg.start c.in-Some.no.0 = subst (FindsEnding c.args.pool.now c.args.tree.now c.args.seg.start) c.in-Some.is c.requires.found in
    listed_used c.requires.tree c.in-Some.no.0 f.listed

pub returns-in-Some : goal.returns-in-Some
returns-in-Some c behind =
    let f : IsFirstEnding c.args.pool.now c.args.tree.now c.args.seg.start c.in-Some.no.0 = subst (FindsEnding c.args.pool.now c.args.tree.now c.args.seg.start) c.in-Some.is c.requires.found in
    let start = ap (λ o. (seg_of o).start) c.node.ensures.node in
    alone_before c.requires.tree c.args.seg c.in-Some.no.0 f (omega (arith, start, ltb-true _ _ behind))

pub returns-in-None : goal.returns-in-None
returns-in-None c always =
    alone_last c.requires.tree c.args.seg (subst (FindsEnding c.args.pool.now c.args.tree.now c.args.seg.start) c.in-None.is c.requires.found)
