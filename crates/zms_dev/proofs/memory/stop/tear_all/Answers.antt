use Rattle.std.proofs.Common.{List, take, map, sym, subst}
use Rattle.std.proofs.lemmas.List.{take_all}
use Rattle.zms_dev.specs.History.{Stage, after, IsImage}
use Rattle.zms_dev.specs.MemoryDisk.{step_of}
use Rattle.zms_dev.specs.Stop.{Filled}
use Rattle.zms_dev.specs.declared.memory.calls.CallRecord.{CallRecord}
use Rattle.zms_dev.proofs.Stopping.{nothing, after_more}
use Rattle.zms_dev.proofs.memory.stop.tear_all.Goals as goal

pub loop-made-preserved : goal.loop-made-preserved
loop-made-preserved c =
    let i = c.loop-made.made-index in
    let w = c.args.written.now in
    let calls = c.args.records.now in
    let new = c.tear.new.image.items in
    record {
      image = λ s is. subst (λ (x : Stage). IsImage x new) (sym (after_more s w calls i nothing c.loop-made-test.true))
          (c.in_ok-tear.ensures.image (after s (map (step_of w) (take i calls))) (c.loop-made.invariant.image s is));
      filled = λ s is. subst (λ (x : Stage). Filled x.ranges c.args.fill new) (sym (after_more s w calls i nothing c.loop-made-test.true))
          (c.in_ok-tear.ensures.filled (after s (map (step_of w) (take i calls))) (c.loop-made.invariant.filled s is));
    }

pub returns-clause-filled : goal.returns-clause-filled
returns-clause-filled c s is =
    subst (λ (calls : List CallRecord). Filled (after s (map (step_of c.args.written.now) calls)).ranges c.args.fill c.loop-made.image.items)
    (take_all c.loop-made.made-index c.args.records.now c.loop-made-test.false) (c.loop-made.invariant.filled s is)
