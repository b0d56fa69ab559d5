use Rattle.std.proofs.Common.{List, ℕ, take, map, sym, subst}
use Rattle.zms_dev.specs.History.{Stage, start, after, IsImage}
use Rattle.zms_dev.specs.HistoryLaws.{reads_now}
use Rattle.zms_dev.specs.MemoryDisk.{step_of}
use Rattle.zms_dev.specs.Stop.{Filled}
use Rattle.zms_dev.proofs.Stopping.{after_parts, filled_rest}
use Rattle.zms_dev.proofs.memory.stop.torn_after.Goals as goal

pub returns-clause-image : goal.returns-clause-image
returns-clause-image c =
    let n = c.last_flush-settled.result in
    let front = map (step_of c.args.written.now) (take n c.args.records.now) in
    let stage = after (start c.args.first.now) front in
    subst (λ (s : Stage). IsImage s c.tear_all.new.image.items) (sym (after_parts (start c.args.first.now) c.args.written.now c.args.records.now n))
    (c.in_ok-tear_all.ensures.image stage (subst (λ (b : List ℕ). IsImage stage b) (sym c.in_ok-image.ensures) (reads_now c.args.first.now front)))

pub returns-clause-filled : goal.returns-clause-filled
returns-clause-filled c =
    let n = c.last_flush-settled.result in
    let stage = after (start c.args.first.now) (map (step_of c.args.written.now) (take n c.args.records.now)) in
    subst (λ (s : Stage). Filled s.ranges c.args.fill c.tear_all.new.image.items) (sym (after_parts (start c.args.first.now) c.args.written.now c.args.records.now n))
    (c.in_ok-tear_all.ensures.filled stage (filled_rest stage c.args.fill c.in_ok-image.image.items (c.last_flush-settled.ensures.at_rest c.args.first.now c.args.written.now)))
