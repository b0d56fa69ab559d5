use Rattle.std.proofs.Common.{arith, ap, subst}
use Rattle.zms_units.specs.declared.segments.Seg.{Seg}
use Rattle.range_tree.specs.Kept.{seg_of}
use Rattle.range_tree.specs.Found.{FindsEnding, IsFirstEnding}
use Rattle.range_tree.proofs.Taking.{listed_run}
use Rattle.range_tree.proofs.Joining.{touches_none, left_free, left_free_none, listed_used}
use Rattle.range_tree.proofs.changing.join_left.Goals as goal

pub node-requires : goal.node-requires
node-requires c =
    let f : IsFirstEnding c.args.pool.now c.args.tree.now c.args.seg.start c.in-Some.no.0 = subst (FindsEnding c.args.pool.now c.args.tree.now c.args.seg.start) c.in-Some.is c.requires.found in
    listed_used c.requires.tree c.in-Some.no.0 f.listed

pub take_out-visits-requires-clause-listed : goal.take_out-visits-requires-clause-listed
take_out-visits-requires-clause-listed c =
    let f : IsFirstEnding c.args.pool.now c.args.tree.now c.args.seg.start c.in-Some.no.0 = subst (FindsEnding c.args.pool.now c.args.tree.now c.args.seg.start) c.in-Some.is c.requires.found in
    f.listed

pub overflow_add-run : goal.overflow_add-run
overflow_add-run c =
    let f : IsFirstEnding c.args.pool.now c.args.tree.now c.args.seg.start c.in-Some.no.0 = subst (FindsEnding c.args.pool.now c.args.tree.now c.args.seg.start) c.in-Some.is c.requires.found in
    let is = ap seg_of c.node.ensures.node in
    omega (arith, (listed_run c.requires.tree c.in-Some.no.0 f.listed).1, ap (λ (r : Seg). r.start) is, ap (λ (r : Seg). r.count) is)

pub returns-else-run-seg-clause-free : goal.returns-else-run-seg-clause-free
returns-else-run-seg-clause-free c =
    let f : IsFirstEnding c.args.pool.now c.args.tree.now c.args.seg.start c.in-Some.no.0 = subst (FindsEnding c.args.pool.now c.args.tree.now c.args.seg.start) c.in-Some.is c.requires.found in
    let is = ap seg_of c.node.ensures.node in
    left_free c.requires.tree c.args.seg c.requires.segment c.requires.apart c.in-Some.no.0 f (λ e. c.if-run-seg.false (omega (arith, e, ap (λ (r : Seg). r.start) is, ap (λ (r : Seg). r.count) is)))

pub returns-else-run-seg-clause-touches : goal.returns-else-run-seg-clause-touches
returns-else-run-seg-clause-touches c = touches_none c.args.pool.now _

pub returns-in_default-clause-free : goal.returns-in_default-clause-free
returns-in_default-clause-free c =
    left_free_none c.requires.tree c.args.seg c.requires.segment c.requires.apart (subst (FindsEnding c.args.pool.now c.args.tree.now c.args.seg.start) c.in_default.is c.requires.found)

pub returns-in_default-clause-touches : goal.returns-in_default-clause-touches
returns-in_default-clause-touches c = touches_none c.args.pool.now _
