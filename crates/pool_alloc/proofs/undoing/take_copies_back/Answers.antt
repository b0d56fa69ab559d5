use Rattle.std.proofs.Common.{◌≡◌, ◌≤◌, ◌++◌, length, List, drop, None, subst, ap, ◌∙◌, refl, arith}
use Rattle.std.specs.declared.alloc.AllocError.{AllocError}
use Rattle.zms_units.specs.declared.blocks.Dva.{Dva}
use Rattle.lane_passes.proofs.Acting.{acted_seated}
use Rattle.pool_alloc.specs.declared.answers.AllocFault.{AllocFault}
use Rattle.pool_alloc.specs.declared.answers.AllocFault.TheVariants.{Memory}
use Rattle.pool_alloc.specs.Allocs.{answer_after}
use Rattle.pool_alloc.specs.Undone.{late_of}
use Rattle.pool_alloc.proofs.TakingBack.{not_none, rest_is, few_more, begins_copies, keeps_one, copies_ran_out, copies_undone}
use Rattle.pool_alloc.proofs.undoing.take_copies_back.Goals as goal

pub loop-place-init : goal.loop-place-init
loop-place-init g c =
    let none : length c.new-left.result ≡ 0 = ap length c.new-left.ensures in
    record { undone = begins_copies c.args.cells.now c.args.passes.now c.args.group c.args.copies.now c.args.classes.now c.new-left.result None c.requires.seated c.new-left.ensures refl; few = omega (arith, none); refusal = refl }

pub unreachable-requires : goal.unreachable-requires
unreachable-requires g c =
    not_none c.args.cells.now.vdevs c.as_slice-dva-items.result.now c.args.copies.now c.loop-place.place _ c.as_slice-dva-items.ensures c.requires.laid c.loop-place-test.true c.in_default.field-0 c.in_default.ensures.none

pub take_copy_back-requires-clause-seated : goal.take_copy_back-requires-clause-seated
take_copy_back-requires-clause-seated g c = acted_seated c.args.cells.now c.args.classes.now _ c.args.passes.now c.loop-place.passes c.requires.seated c.loop-place.invariant.undone

pub returns-in-Err : goal.returns-in-Err
returns-in-Err g c =
    let is : c.ran_out.result ≡ Memory (c.loop-place.left ++ drop c.loop-place.place c.args.copies.now) =
    c.ran_out.ensures ∙ ap (λ (l : List Dva). Memory (c.loop-place.left ++ l)) (rest_is c.as_slice.result.now c.args.copies.now c.loop-place.place c.as_slice.ensures) in
    copies_ran_out c.args.cells.now c.args.passes.now c.args.group c.args.copies.now AllocError (record {}) c.loop-place.place c.loop-place.left c.loop-place.first c.in-Ok.id c.in-Ok.seg c.args.refusal c.ran_out.result
    c.loop-place.passes c.take_copy_back.new.passes is c.loop-place.invariant.undone c.in-Err.ensures

pub loop-place-preserved : goal.loop-place-preserved
loop-place-preserved g c =
    let i = c.loop-place.invariant in
    let late = c.in-Ok-take_copy_back.late in record {
      undone =
          keeps_one c.args.cells.now c.args.passes.now c.args.group c.args.copies.now AllocError c.loop-place.place _ c.as_slice-dva-items.result.now c.as_slice-dva-items.ensures c.requires.laid c.loop-place-test.true
          c.in-Ok.id c.in-Ok.seg c.in-Ok.ensures.found c.loop-place.left c.note_left-first.new.left c.loop-place.first c.note_left-first.result late c.loop-place.passes c.take_copy_back.new.passes
          c.note_left-first.ensures.left c.note_left-first.ensures.first i.undone c.in-Ok-take_copy_back.ensures;
      few = few_more late _ c.loop-place.left c.note_left-first.new.left c.loop-place.place c.note_left-first.ensures.left i.few;
      refusal = i.refusal;
    }

pub returns : goal.returns
returns g c =
    let ends : length c.args.copies.now ≤ c.loop-place.place = subst (λ (l : List Dva). length l ≤ c.loop-place.place) c.as_slice-dva-items.ensures (omega (arith, c.loop-place-test.false)) in
    copies_undone c.args.cells.now c.args.passes.now c.args.group c.args.copies.now c.loop-place.place c.loop-place.left c.loop-place.first c.args.refusal c.answer_after.result c.loop-place.passes ends c.requires.refusal
    (c.answer_after.ensures ∙ ap (λ (f : AllocFault). answer_after f (late_of c.loop-place.first)) c.loop-place.invariant.refusal) c.loop-place.invariant.undone
