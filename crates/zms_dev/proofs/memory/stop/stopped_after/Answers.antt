use Rattle.std.proofs.Common.{◌≡◌, ℕ, List, map, sym, subst}
use Rattle.std.specs.Prelude.{Vec}
use Rattle.std.specs.declared.alloc.Global.{Global}
use Rattle.zms_dev.specs.History.{start, after, IsImage}
use Rattle.zms_dev.specs.HistoryLaws.{reads_now}
use Rattle.zms_dev.specs.MemoryDisk.{step_of}
use Rattle.zms_dev.proofs.Stopping.{if_ok}
use Rattle.zms_dev.proofs.memory.stop.stopped_after.Goals as goal

pub returns-in-New-clause-image : goal.returns-in-New-clause-image
returns-in-New-clause-image c =
    let steps = map (step_of c.args.written.now) c.args.records.now in
    let stage = after (start c.args.first.now) steps in
    if_ok (λ (v : Vec ℕ Global). v.items ≡ stage.seen) (λ (v : Vec ℕ Global). IsImage stage v.items)
    c.seen_after.result (λ v is. subst (λ (b : List ℕ). IsImage stage b) (sym is) (reads_now c.args.first.now steps)) c.seen_after.ensures
