use Rattle.std.proofs.Common.{◌<◌, ◌-◌, ◌∙◌, List, arith, subst}
use Rattle.zms_units.specs.declared.segments.Seg.{Seg}
use Rattle.seg_trees.specs.Pieces.{Touches}
use Rattle.seg_trees.proofs.Places.{run_fits}
use Rattle.seg_trees.proofs.Splices.{alone_apart, alone_covered, joins_apart, joins_covered, joined_items}
use Rattle.seg_trees.proofs.runs.join.Goals as goal

pub overflow_add-last : goal.overflow_add-last
overflow_add-last c =
    omega (
      arith,
      (run_fits 131073 c.args.runs.now.items (c.touched-low.result.1 - 1) c.index-last.result.now c.requires.apart
          (omega (arith, c.touched-low.ensures.order, c.touched-low.ensures.bound, c.deref.ensures.len, c.args.runs.now.ok.0)) c.index-last.ensures).1,
    )

pub returns-then-low-high-clause-apart : goal.returns-then-low-high-clause-apart
returns-then-low-high-clause-apart c =
    let t = subst (λ (rs : List Seg). Touches rs c.args.seg c.touched-low.result.0 c.touched-low.result.1) c.deref.ensures.value c.touched-low.ensures in
    let e = rw c.unwrap.ensures at c.insert.ensures.items in
    rw e (alone_apart c.args.runs.now.items c.args.seg _ _ c.requires.apart c.requires.segment t c.if-low-high.true)

pub returns-then-low-high-clause-units : goal.returns-then-low-high-clause-units
returns-then-low-high-clause-units c =
    let t = subst (λ (rs : List Seg). Touches rs c.args.seg c.touched-low.result.0 c.touched-low.result.1) c.deref.ensures.value c.touched-low.ensures in
    let e = rw c.unwrap.ensures at c.insert.ensures.items in
    λ u. rw e (alone_covered c.args.runs.now.items c.args.seg _ _ c.requires.apart c.requires.segment t c.if-low-high.true u)

pub returns-clause-apart : goal.returns-clause-apart
returns-clause-apart c =
    let t = subst (λ (rs : List Seg). Touches rs c.args.seg c.touched-low.result.0 c.touched-low.result.1) c.deref.ensures.value c.touched-low.ensures in
    let lt : c.touched-low.result.0 < c.touched-low.result.1 = omega (arith, t.order, c.if-low-high.false) in
    let whole : Seg = record { start = c.min-start.result; count = c.max-end.result - c.min-start.result } in
    rw (c.cut.ensures.items ∙ joined_items c.args.runs.now.items _ _ whole lt t.bound)
    (joins_apart c.args.runs.now.items c.args.seg _ _ c.requires.apart c.requires.segment t whole c.index-first.result.now c.index-last.result.now lt
    c.index-first.ensures c.index-last.ensures c.min-start.ensures (omega (arith, c.min-start.ensures, c.max-end.ensures)))

pub returns-clause-units : goal.returns-clause-units
returns-clause-units c =
    let t = subst (λ (rs : List Seg). Touches rs c.args.seg c.touched-low.result.0 c.touched-low.result.1) c.deref.ensures.value c.touched-low.ensures in
    let lt : c.touched-low.result.0 < c.touched-low.result.1 = omega (arith, t.order, c.if-low-high.false) in
    let whole : Seg = record { start = c.min-start.result; count = c.max-end.result - c.min-start.result } in
    λ u. rw (c.cut.ensures.items ∙ joined_items c.args.runs.now.items _ _ whole lt t.bound)
    (joins_covered c.args.runs.now.items c.args.seg _ _ c.requires.apart c.requires.segment t whole c.index-first.result.now c.index-last.result.now lt
    c.index-first.ensures c.index-last.ensures c.min-start.ensures (omega (arith, c.min-start.ensures, c.max-end.ensures)) u)
