use Rattle.std.proofs.Common.{refl, ◌∙◌, arith}
use Rattle.zms_units.specs.declared.segments.Seg.{Seg}
use Rattle.zms_units.proofs.RisingSegs.{rising_at}
use Rattle.ms_model.proofs.Reflecting.{reflects_base}
use Rattle.ms_model.proofs.checking.Checker.new.Goals as goal

pub put-requires-clause-within : goal.put-requires-clause-within
put-requires-clause-within c =
    let none : Seg = record { start = 0; count = 0 } in
    let t = rising_at 0 c.args.units c.args.base.now c.loop-seg.seg-index none c.requires.base c.loop-seg-test.true in
    record { some = t.1; within = omega (arith, t.2, c.loop-seg.invariant.len) }

pub loop-seg-preserved : goal.loop-seg-preserved
loop-seg-preserved c =
    let none : Seg = record { start = 0; count = 0 } in
    record {
      len = c.put.ensures.len ∙ c.loop-seg.invariant.len;
      reflects = reflects_base c.args.base.now c.loop-seg.seg-index c.args.units c.args.ashift c.args.opened.0 none c.loop-seg.checker c.put.new.self c.args.opened
          c.loop-seg-test.true refl c.loop-seg.invariant.reflects c.put.ensures.len c.put.ensures.acts c.put.ensures.stays;
    }
