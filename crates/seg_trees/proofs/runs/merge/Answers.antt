use Rattle.std.proofs.Common.{◌+◌, get_or, refl, arith}
use Rattle.std.proofs.lemmas.List.{get_or_default}
use Rattle.zms_units.specs.declared.segments.Seg.{Seg}
use Rattle.zms_units.specs.Segments.{covered}
use Rattle.seg_trees.proofs.Merging.{merged_swap, disjoint_swap, all_merged, next_segment, next_apart, merged_next}
use Rattle.seg_trees.proofs.runs.merge.Goals as goal

pub push_joined-requires-clause-apart : goal.push_joined-requires-clause-apart
push_joined-requires-clause-apart c =
    let n = c.if-comes_first.ensures.yes refl in
    let run : Seg = get_or c.args.first.now c.loop-taken.taken (record { start = 0; count = 0 }) in
    next_apart c.args.first.now c.args.second.now c.loop-taken.taken c.loop-taken.used c.loop-taken.out.items run c.requires.first c.requires.second c.requires.disjoint c.loop-taken.invariant.merged n
    (get_or_default c.args.first.now c.loop-taken.taken (record { start = 0; count = 0 }) run n.place)

pub push_joined-requires-clause-segment : goal.push_joined-requires-clause-segment
push_joined-requires-clause-segment c =
    let n = c.if-comes_first.ensures.yes refl in
    let run : Seg = get_or c.args.first.now c.loop-taken.taken (record { start = 0; count = 0 }) in
    next_segment c.args.first.now c.args.second.now c.loop-taken.taken c.loop-taken.used c.loop-taken.out.items run c.requires.first c.requires.second c.requires.disjoint c.loop-taken.invariant.merged n
    (get_or_default c.args.first.now c.loop-taken.taken (record { start = 0; count = 0 }) run n.place)

pub loop-taken-preserved-then-comes_first : goal.loop-taken-preserved-then-comes_first
loop-taken-preserved-then-comes_first c =
    let n = c.if-comes_first.ensures.yes refl in
    let run : Seg = get_or c.args.first.now c.loop-taken.taken (record { start = 0; count = 0 }) in
    record {
      merged = merged_next c.args.first.now c.args.second.now c.loop-taken.taken c.loop-taken.used c.loop-taken.out.items run c.requires.first c.requires.second c.requires.disjoint
          c.loop-taken.invariant.merged n (get_or_default c.args.first.now c.loop-taken.taken (record { start = 0; count = 0 }) run n.place)
          c.push_joined.new.out.items c.push_joined.ensures.apart c.push_joined.ensures.units;
      len = omega (arith, c.push_joined.ensures.len, c.loop-taken.invariant.len);
      capacity = omega (arith, c.push_joined.ensures.capacity, c.loop-taken.invariant.capacity);
    }

pub push_joined-requires-else-comes_first-clause-apart : goal.push_joined-requires-else-comes_first-clause-apart
push_joined-requires-else-comes_first-clause-apart c =
    let n = c.if-comes_first.ensures.not refl in
    let run : Seg = get_or c.args.second.now c.loop-taken.used (record { start = 0; count = 0 }) in
    next_apart c.args.second.now c.args.first.now c.loop-taken.used c.loop-taken.taken c.loop-taken.out.items run c.requires.second c.requires.first
    (disjoint_swap (covered c.args.first.now) (covered c.args.second.now) c.requires.disjoint)
    (merged_swap c.args.first.now c.args.second.now c.loop-taken.taken c.loop-taken.used c.loop-taken.out.items c.loop-taken.invariant.merged) n
    (get_or_default c.args.second.now c.loop-taken.used (record { start = 0; count = 0 }) run n.place)

pub push_joined-requires-else-comes_first-clause-segment : goal.push_joined-requires-else-comes_first-clause-segment
push_joined-requires-else-comes_first-clause-segment c =
    let n = c.if-comes_first.ensures.not refl in
    let run : Seg = get_or c.args.second.now c.loop-taken.used (record { start = 0; count = 0 }) in
    next_segment c.args.second.now c.args.first.now c.loop-taken.used c.loop-taken.taken c.loop-taken.out.items run c.requires.second c.requires.first
    (disjoint_swap (covered c.args.first.now) (covered c.args.second.now) c.requires.disjoint)
    (merged_swap c.args.first.now c.args.second.now c.loop-taken.taken c.loop-taken.used c.loop-taken.out.items c.loop-taken.invariant.merged) n
    (get_or_default c.args.second.now c.loop-taken.used (record { start = 0; count = 0 }) run n.place)

pub loop-taken-preserved : goal.loop-taken-preserved
loop-taken-preserved c =
    let n = c.if-comes_first.ensures.not refl in
    let run : Seg = get_or c.args.second.now c.loop-taken.used (record { start = 0; count = 0 }) in
    record {
      merged =
          merged_swap c.args.second.now c.args.first.now (c.loop-taken.used + 1) c.loop-taken.taken c.push_joined-else-comes_first.new.out.items
          (merged_next c.args.second.now c.args.first.now c.loop-taken.used c.loop-taken.taken c.loop-taken.out.items run c.requires.second c.requires.first
          (disjoint_swap (covered c.args.first.now) (covered c.args.second.now) c.requires.disjoint)
          (merged_swap c.args.first.now c.args.second.now c.loop-taken.taken c.loop-taken.used c.loop-taken.out.items c.loop-taken.invariant.merged) n
          (get_or_default c.args.second.now c.loop-taken.used (record { start = 0; count = 0 }) run n.place)
          c.push_joined-else-comes_first.new.out.items c.push_joined-else-comes_first.ensures.apart c.push_joined-else-comes_first.ensures.units);
      len = omega (arith, c.push_joined-else-comes_first.ensures.len, c.loop-taken.invariant.len);
      capacity = omega (arith, c.push_joined-else-comes_first.ensures.capacity, c.loop-taken.invariant.capacity);
    }

pub returns-clause-apart : goal.returns-clause-apart
returns-clause-apart c =
    (all_merged c.args.first.now c.args.second.now c.loop-taken.taken c.loop-taken.used c.loop-taken.out.items c.loop-taken.invariant.merged (omega arith) (omega arith)).0

pub returns-clause-units : goal.returns-clause-units
returns-clause-units c =
    (all_merged c.args.first.now c.args.second.now c.loop-taken.taken c.loop-taken.used c.loop-taken.out.items c.loop-taken.invariant.merged (omega arith) (omega arith)).1
