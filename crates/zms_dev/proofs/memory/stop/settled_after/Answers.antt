use Rattle.std.proofs.Common.{◌≡◌, ℕ, take, map, ◌∙◌}
use Rattle.std.specs.Prelude.{Vec}
use Rattle.std.specs.declared.alloc.Global.{Global}
use Rattle.zms_dev.specs.History.{start, after}
use Rattle.zms_dev.specs.MemoryDisk.{step_of}
use Rattle.zms_dev.proofs.Stopping.{if_ok, settled_last}
use Rattle.zms_dev.proofs.memory.stop.settled_after.Goals as goal

pub returns : goal.returns
returns c =
    let n = c.last_flush-settled.result in
    let first = c.args.first.now in
    let written = c.args.written.now in
    let calls = c.args.records.now in
    if_ok (λ (v : Vec ℕ Global). v.items ≡ (after (start first) (map (step_of written) (take n calls))).seen)
    (λ (v : Vec ℕ Global). v.items ≡ (after (start first) (map (step_of written) calls)).settled)
    c.seen_after.result (λ v is. is ∙ settled_last first written calls n (c.last_flush-settled.ensures.at_rest first written) c.last_flush-settled.ensures.none_since) c.seen_after.ensures
