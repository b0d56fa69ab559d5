use Rattle.std.proofs.Common.{get_or, take, map, sym, ◌∙◌, subst, arith}
use Rattle.zms_dev.specs.History.{Stage, start, after}
use Rattle.zms_dev.specs.MemoryDisk.{step_of}
use Rattle.zms_dev.specs.Stop.{IsAtRest}
use Rattle.zms_dev.proofs.Stopping.{nothing, after_more, rest_flushed, none_more}
use Rattle.zms_dev.proofs.memory.stop.last_flush.Goals as goal
use Rattle.zms_dev.proofs.memory.stop.last_flush.Goals.{then-is_flush, else-is_flush}

pub loop-i-preserved : goal.loop-i-preserved
loop-i-preserved c =
    let i = c.loop-i.i in
    let was = c.loop-i.invariant in
    elim c.if-is_flush.branch [
      | then-is_flush w ↦ rw w.last-is (record {
        bound = omega arith;
        at_rest = λ first written. subst (λ (s : Stage). IsAtRest s)
            (sym (after_more (start first) written c.args.records.now i nothing c.loop-i-test.true))
            (rest_flushed (after (start first) (map (step_of written) (take i c.args.records.now))) written (get_or c.args.records.now i nothing) (sym c.is_flush.ensures ∙ w.if-is_flush.true));
        none_since = λ k other low high. absurd (omega arith);
      })
      | else-is_flush w ↦ rw w.last-is (record {
        bound = omega (arith, was.bound);
        at_rest = was.at_rest;
        none_since = none_more c.args.records.now c.loop-i.last i c.loop-i-test.true was.none_since (sym c.is_flush.ensures ∙ w.if-is_flush.false);
      })
    ]
