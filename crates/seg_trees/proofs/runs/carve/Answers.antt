use Rattle.std.proofs.Common.{◌-◌, List, refl, arith, ap, sym, subst}
use Rattle.zms_units.specs.declared.segments.Seg.{Seg}
use Rattle.zms_units.specs.Segments.{end_of}
use Rattle.seg_trees.specs.Pieces.{IsHolder}
use Rattle.seg_trees.proofs.Splices.{left_apart, left_covered}
use Rattle.seg_trees.proofs.Places.{run_fits}
use Rattle.seg_trees.proofs.runs.carve.Goals as goal

pub overflow_add-right : goal.overflow_add-right
overflow_add-right c =
    let held = subst (λ (rs : List Seg). IsHolder rs c.args.seg c.unwrap-index.result) c.deref.ensures.value (rw c.unwrap-index.ensures at c.holder.ensures.some) in
    omega (arith, (run_fits 131073 c.args.runs.now.items c.unwrap-index.result c.index-run.result.now c.requires.apart held.place c.index-run.ensures).1)

pub returns-clause-apart : goal.returns-clause-apart
returns-clause-apart c =
    let run : Seg = c.index-run.result.now in
    let seg = c.args.seg in
    let left : Seg = record { start = run.start; count = seg.start - run.start } in
    let right : Seg = record { start = end_of seg; count = end_of run - end_of seg } in
    let held = subst (λ (rs : List Seg). IsHolder rs c.args.seg c.unwrap-index.result) c.deref.ensures.value (rw c.unwrap-index.ensures at c.holder.ensures.some) in
    let start = ap (λ (r : Seg). r.start) c.index-run.ensures in
    let end = ap end_of c.index-run.ensures in
    rw c.split.ensures.items
    (left_apart c.args.runs.now.items 131073 c.unwrap-index.result run seg left right c.requires.apart held.place (sym c.index-run.ensures)
    c.requires.segment.some (omega (arith, held.from run)) (omega (arith, held.till run)) refl (omega (arith, held.from run)) refl (omega (arith, held.till run)))

pub returns-clause-units : goal.returns-clause-units
returns-clause-units c =
    let run : Seg = c.index-run.result.now in
    let seg = c.args.seg in
    let left : Seg = record { start = run.start; count = seg.start - run.start } in
    let right : Seg = record { start = end_of seg; count = end_of run - end_of seg } in
    let held = subst (λ (rs : List Seg). IsHolder rs c.args.seg c.unwrap-index.result) c.deref.ensures.value (rw c.unwrap-index.ensures at c.holder.ensures.some) in
    let start = ap (λ (r : Seg). r.start) c.index-run.ensures in
    let end = ap end_of c.index-run.ensures in
    λ u. rw c.split.ensures.items
    (left_covered c.args.runs.now.items 131073 c.unwrap-index.result run seg left right c.requires.apart held.place (sym c.index-run.ensures)
    c.requires.segment.some (omega (arith, held.from run)) (omega (arith, held.till run)) refl (omega (arith, held.from run)) refl (omega (arith, held.till run)) u)
