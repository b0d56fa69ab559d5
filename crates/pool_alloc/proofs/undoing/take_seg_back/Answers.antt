use Rattle.std.proofs.Common.{◌+◌, ◌-◌, ◌<◌, ◌≤◌, Err, ◌∙◌, refl, arith}
use Rattle.std.specs.declared.alloc.AllocError.{AllocError}
use Rattle.zms_units.specs.declared.segments.Seg.{Seg}
use Rattle.lane_passes.proofs.Acting.{acted_seated}
use Rattle.ms_core.specs.declared.faults.MsFault.TheVariants.{NotLive, Late}
use Rattle.ms_cell.specs.declared.answers.CellFault.TheVariants.{Ms}
use Rattle.pool_alloc.proofs.TakingBack.{turn_as, before_end, run_some, run_within, begins_taking, takes_run, passes_unit, shortens_run, unit_within, taken_whole, taken_late, taken_not}
use Rattle.pool_alloc.proofs.undoing.take_seg_back.Goals as goal

pub loop-init : goal.loop-init
loop-init g c = record {
  acted = begins_taking c.args.cells.now c.args.passes.now c.args.group c.args.id c.args.seg c.requires.seated.0 c.requires.seated.1;
  begins = omega arith;
  ends = omega arith;
  stops = omega (arith, c.end_on-end.ensures);
  some = λ lt. omega (arith, lt, c.end_on-end.ensures);
}

pub returns-then-start-end : goal.returns-then-start-end
returns-then-start-end g c =
    taken_whole c.args.cells.now c.args.passes.now c.args.group c.args.id c.args.seg AllocError c.loop.start c.loop.passes (c.if-start-end.true ∙ c.end_on-end.ensures) c.loop.invariant.acted

pub overflow_sub-run : goal.overflow_sub-run
overflow_sub-run g c =
    let i = c.loop.invariant in
    let some : c.loop.start < c.loop.stop = run_some _ c.args.seg c.loop.start c.loop.stop _ c.requires.segment c.end_on-end.ensures i.ends i.stops i.some c.if-start-end.false in
    omega (arith, some)

pub take_back-requires-clause-segment : goal.take_back-requires-clause-segment
take_back-requires-clause-segment g c =
    let i = c.loop.invariant in run_within _ c.args.seg c.loop.start c.loop.stop _ c.requires.segment c.end_on-end.ensures i.ends i.stops i.some c.if-start-end.false

pub take_back-requires-clause-seated : goal.take_back-requires-clause-seated
take_back-requires-clause-seated g c =
    (c.requires.seated.0, acted_seated c.args.cells.now c.requires.seated.0 _ c.args.passes.now c.loop.passes c.requires.seated.1 c.loop.invariant.acted)

pub loop-preserved-in-Ok : goal.loop-preserved-in-Ok
loop-preserved-in-Ok g c =
    let i = c.loop.invariant in
    let some : c.loop.start < c.loop.stop = run_some _ c.args.seg c.loop.start c.loop.stop _ c.requires.segment c.end_on-end.ensures i.ends i.stops i.some c.if-start-end.false in
    let run : Seg = record { start = c.loop.start; count = c.loop.stop - c.loop.start } in record {
      acted =
          takes_run c.args.cells.now c.args.passes.now c.args.group c.args.id c.args.seg c.loop.start c.loop.stop run c.loop.passes c.take_back.new.passes refl (omega (arith, some)) i.acted c.in-Ok.ensures;
      begins = omega (arith, i.begins, some);
      ends = i.stops;
      stops = omega (arith, c.end_on-end.ensures);
      some = λ lt. omega (arith, lt, c.end_on-end.ensures);
    }

pub loop-preserved-then-unit-start : goal.loop-preserved-then-unit-start
loop-preserved-then-unit-start g c =
    let i = c.loop.invariant in
    let before : c.loop.start < c.args.seg.start + c.args.seg.count = before_end _ c.args.seg c.loop.start c.loop.stop _ c.requires.segment c.end_on-end.ensures i.ends i.stops i.some c.if-start-end.false in
    let run : Seg = record { start = c.loop.start; count = c.loop.stop - c.loop.start } in
    let n = c.in-Err-Ms-NotLive in
    let turn = turn_as c.args.cells.now c.args.group c.args.id run c.take_back.result (Err (Ms (NotLive n.unit))) c.loop.passes c.take_back.new.passes (cc (n.is, n.field-0-is, n.field-0-0-is)) c.take_back.ensures in
    record {
      acted =
          passes_unit c.args.cells.now c.args.passes.now c.args.group c.args.id c.args.seg c.loop.start c.in-Err-Ms-NotLive.unit run c.loop.passes c.take_back.new.passes c.if-unit-start.true i.acted turn;
      begins = omega (arith, i.begins);
      ends = omega (arith, before);
      stops = omega (arith, c.end_on-end.ensures);
      some = λ lt. omega (arith, lt, c.end_on-end.ensures);
    }

pub loop-preserved : goal.loop-preserved
loop-preserved g c =
    let i = c.loop.invariant in
    let some : c.loop.start < c.loop.stop = run_some _ c.args.seg c.loop.start c.loop.stop _ c.requires.segment c.end_on-end.ensures i.ends i.stops i.some c.if-start-end.false in
    let run : Seg = record { start = c.loop.start; count = c.loop.stop - c.loop.start } in
    let n = c.in-Err-Ms-NotLive in
    let unit = n.unit in
    let turn = turn_as c.args.cells.now c.args.group c.args.id run c.take_back.result (Err (Ms (NotLive unit))) c.loop.passes c.take_back.new.passes (cc (n.is, n.field-0-is, n.field-0-0-is)) c.take_back.ensures in
    let there = unit_within c.args.cells.now c.args.passes.now c.args.group c.args.id c.args.seg unit run c.loop.passes c.take_back.new.passes turn in
    let low : c.loop.start ≤ unit = there.0 in
    let high : unit < c.loop.start + (c.loop.stop - c.loop.start) = there.1 in record {
      acted =
          shortens_run c.args.cells.now c.args.passes.now c.args.group c.args.id c.args.seg c.loop.start unit run c.loop.passes c.take_back.new.passes (omega (arith, low, c.if-unit-start.false)) i.acted turn;
      begins = i.begins;
      ends = i.ends;
      stops = omega (arith, high, some, i.stops);
      some = λ lt. omega (arith, low, c.if-unit-start.false);
    }

pub returns-in-Err-Ms-Late : goal.returns-in-Err-Ms-Late
returns-in-Err-Ms-Late g c =
    let i = c.loop.invariant in
    let before : c.loop.start < c.args.seg.start + c.args.seg.count = before_end _ c.args.seg c.loop.start c.loop.stop _ c.requires.segment c.end_on-end.ensures i.ends i.stops i.some c.if-start-end.false in
    let run : Seg = record { start = c.loop.start; count = c.loop.stop - c.loop.start } in
    let n = c.in-Err-Ms-Late in
    let turn =
    turn_as c.args.cells.now c.args.group c.args.id run c.take_back.result (Err (Ms (Late n.group n.collected))) c.loop.passes c.take_back.new.passes
    (cc (n.is, n.field-0-is, n.field-0-0-is)) c.take_back.ensures in
    taken_late c.args.cells.now c.args.passes.now c.args.group c.args.id c.args.seg AllocError c.loop.start run (record { group = c.in-Err-Ms-Late.group; collected = c.in-Err-Ms-Late.collected }) c.loop.passes
    c.take_back.new.passes (i.begins, before) i.acted turn

pub returns-in-Err : goal.returns-in-Err
returns-in-Err g c =
    let run : Seg = record { start = c.loop.start; count = c.loop.stop - c.loop.start } in
    taken_not c.args.cells.now c.args.passes.now c.args.group c.args.id c.args.seg AllocError (record {}) c.loop.start run _ c.loop.passes c.take_back.new.passes c.loop.invariant.acted c.in-Err.ensures
