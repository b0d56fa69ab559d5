use Rattle.std.proofs.Common.{List, ℕ, get_or, take, map, sym, ◌∙◌, ap}
use Rattle.zms_dev.specs.History.{Stage, start, next, after}
use Rattle.zms_dev.specs.MemoryDisk.{step_of}
use Rattle.zms_dev.proofs.Stopping.{nothing, after_more, seen_from}
use Rattle.zms_dev.proofs.memory.stop.seen_after.Goals as goal

pub loop-made-preserved : goal.loop-made-preserved
loop-made-preserved c =
    let i = c.loop-made.made-index in
    let step = step_of c.args.written.now (get_or c.args.records.now i nothing) in
    c.in_ok-apply.ensures ∙ ap (λ (b : List ℕ). (next (start b) step).seen) c.loop-made.invariant
    ∙ sym (seen_from (after (start c.args.first.now) (map (step_of c.args.written.now) (take i c.args.records.now))) step)
    ∙ sym (ap (λ (s : Stage). s.seen) (after_more (start c.args.first.now) c.args.written.now c.args.records.now i nothing c.loop-made-test.true))
