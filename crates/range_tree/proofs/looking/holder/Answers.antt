use Rattle.std.proofs.Common.{◌+◌, arith, ap, subst}
use Rattle.zms_units.specs.declared.segments.Seg.{Seg}
use Rattle.range_tree.specs.Kept.{seg_of}
use Rattle.range_tree.specs.Found.{FindsEnding, IsFirstEnding}
use Rattle.range_tree.proofs.Taking.{listed_run}
use Rattle.range_tree.proofs.Finding.{holds_first, none_held}
use Rattle.range_tree.proofs.looking.holder.Goals as goal
use Rattle.range_tree.proofs.looking.holder.Goals.{else-run-seg-via-then-run-seg+else-seg-run, else-run-seg-via-else-run-seg}

pub overflow_add-run : goal.overflow_add-run
overflow_add-run c =
    let f : IsFirstEnding c.args.pool.now c.args.tree.now (c.args.seg.start + 1) c.in-Some.no.0 = subst (FindsEnding c.args.pool.now c.args.tree.now (c.args.seg.start + 1)) c.in-Some.is c.first_ending-found.ensures.found in
    let is = ap seg_of c.node.ensures.node in
    omega (arith, (listed_run c.requires.tree c.in-Some.no.0 f.listed).1, ap (λ (r : Seg). r.start) is, ap (λ (r : Seg). r.count) is)

pub returns-else-run-seg-clause-none : goal.returns-else-run-seg-clause-none
returns-else-run-seg-clause-none c all =
    let f : IsFirstEnding c.args.pool.now c.args.tree.now (c.args.seg.start + 1) c.in-Some.no.0 = subst (FindsEnding c.args.pool.now c.args.tree.now (c.args.seg.start + 1)) c.in-Some.is c.first_ending-found.ensures.found in
    let h = holds_first c.requires.tree c.args.seg c.in-Some.no.0 c.requires.segment f all in
    let is = ap seg_of c.node.ensures.node in
    let start = ap (λ (r : Seg). r.start) is in
    let count = ap (λ (r : Seg). r.count) is in
    elim c.else-run-seg.branch [
      | else-run-seg-via-then-run-seg+else-seg-run w ↦ omega (arith, h.till, start, count, w.if-seg-run.false)
      | else-run-seg-via-else-run-seg w ↦ omega (arith, h.from, start, w.if-run-seg.false)
    ]

pub returns-in_default-clause-none : goal.returns-in_default-clause-none
returns-in_default-clause-none c all =
    none_held c.requires.tree c.args.seg c.requires.segment (subst (FindsEnding c.args.pool.now c.args.tree.now (c.args.seg.start + 1)) c.in_default.is c.first_ending-found.ensures.found) all
