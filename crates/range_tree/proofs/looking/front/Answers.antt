use Rattle.std.proofs.Common.{◌+◌, arith, ap, subst}
use Rattle.zms_units.specs.declared.segments.Seg.{Seg}
use Rattle.range_tree.specs.Kept.{seg_of}
use Rattle.range_tree.specs.Found.{FindsEnding, IsFirstEnding}
use Rattle.range_tree.proofs.Taking.{listed_run}
use Rattle.range_tree.proofs.Finding.{none_from, listed_maximal, none_before}
use Rattle.range_tree.proofs.looking.front.Goals as goal

pub returns-in_default-clause-alike : goal.returns-in_default-clause-alike
returns-in_default-clause-alike c u inside =
    none_from c.requires.tree c.args.seg.start (subst (FindsEnding c.args.pool.now c.args.tree.now (c.args.seg.start + 1)) c.in_default.is c.first_ending-found.ensures.found) u inside.0

pub returns-then-seg-run-clause-alike : goal.returns-then-seg-run-clause-alike
returns-then-seg-run-clause-alike c u inside =
    let f : IsFirstEnding c.args.pool.now c.args.tree.now (c.args.seg.start + 1) c.in-Some.no.0 = subst (FindsEnding c.args.pool.now c.args.tree.now (c.args.seg.start + 1)) c.in-Some.is c.first_ending-found.ensures.found in
    let start = ap (λ (o : _). (seg_of o).start) c.node.ensures.node in
    none_before c.requires.tree c.args.seg.start c.in-Some.no.0 f u inside.0 (omega (arith, start, inside.1, c.min.ensures))

pub overflow_add-run : goal.overflow_add-run
overflow_add-run c =
    let f : IsFirstEnding c.args.pool.now c.args.tree.now (c.args.seg.start + 1) c.in-Some.no.0 = subst (FindsEnding c.args.pool.now c.args.tree.now (c.args.seg.start + 1)) c.in-Some.is c.first_ending-found.ensures.found in
    let is = ap seg_of c.node.ensures.node in
    omega (arith, (listed_run c.requires.tree c.in-Some.no.0 f.listed).1, ap (λ (r : Seg). r.start) is, ap (λ (r : Seg). r.count) is)

pub returns-clause-alike : goal.returns-clause-alike
returns-clause-alike c u inside =
    let f : IsFirstEnding c.args.pool.now c.args.tree.now (c.args.seg.start + 1) c.in-Some.no.0 = subst (FindsEnding c.args.pool.now c.args.tree.now (c.args.seg.start + 1)) c.in-Some.is c.first_ending-found.ensures.found in
    let is = ap seg_of c.node.ensures.node in
    let start = ap (λ (r : Seg). r.start) is in
    let count = ap (λ (r : Seg). r.count) is in
    (listed_maximal c.requires.tree c.in-Some.no.0 f.listed).inside u (omega (arith, start, c.if-seg-run.false, inside.0), omega (arith, start, count, inside.1, c.min-2.ensures))
