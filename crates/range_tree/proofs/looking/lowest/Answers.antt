use Rattle.std.proofs.Common.{◌+◌, arith, ap, subst}
use Rattle.range_tree.specs.Kept.{seg_of}
use Rattle.range_tree.specs.Found.{FindsEnding, IsFirstEnding}
use Rattle.range_tree.proofs.Finding.{met, none_met, none_from}
use Rattle.range_tree.proofs.looking.lowest.Goals as goal

pub returns-then-run-seg-clause-lowest : goal.returns-then-run-seg-clause-lowest
returns-then-run-seg-clause-lowest c =
    let f : IsFirstEnding c.args.pool.now c.args.tree.now (c.args.seg.start + 1) c.in-Some.no.0 = subst (FindsEnding c.args.pool.now c.args.tree.now (c.args.seg.start + 1)) c.in-Some.is c.first_ending-found.ensures.found in
    let start = ap (λ (o : _). (seg_of o).start) c.node.ensures.node in
    met c.requires.tree c.args.seg c.in-Some.no.0 c.max.result c.requires.segment f (omega (arith, start, c.if-run-seg.true)) (omega (arith, start, c.max.ensures))

pub returns-else-run-seg-clause-none : goal.returns-else-run-seg-clause-none
returns-else-run-seg-clause-none c =
    let f : IsFirstEnding c.args.pool.now c.args.tree.now (c.args.seg.start + 1) c.in-Some.no.0 = subst (FindsEnding c.args.pool.now c.args.tree.now (c.args.seg.start + 1)) c.in-Some.is c.first_ending-found.ensures.found in
    let start = ap (λ (o : _). (seg_of o).start) c.node.ensures.node in
    none_met c.requires.tree c.args.seg c.in-Some.no.0 f (omega (arith, start, c.if-run-seg.false))

pub returns-in_default-clause-none : goal.returns-in_default-clause-none
returns-in_default-clause-none c u inside =
    none_from c.requires.tree c.args.seg.start (subst (FindsEnding c.args.pool.now c.args.tree.now (c.args.seg.start + 1)) c.in_default.is c.first_ending-found.ensures.found) u inside.0
