use Rattle.std.proofs.Common.{◌≡◌, ℕ, take, map, ◌∙◌, ap, subst}
use Rattle.std.specs.Prelude.{Vec}
use Rattle.std.specs.declared.alloc.Global.{Global}
use Rattle.zms_dev.specs.History.{Stage, start, after, IsImage, WasImage}
use Rattle.zms_dev.specs.MemoryDisk.{DiskForm, step_of, steps_of}
use Rattle.zms_dev.specs.Stop.{stage_after, LeavesBytes}
use Rattle.zms_dev.proofs.Stopping.{if_ok, stage_is, was_then}
use Rattle.zms_dev.proofs.memory.disk.MemDisk.stopped.Goals as goal

abbrev stage : goal.After-stopped_after → Stage
stage c = after (start c.deref.result.now) (map (step_of c.deref-2.result.now) (take c.args.calls c.deref-3.result.now))

same_stage : (c : goal.After-stopped_after) → stage c ≡ stage_after c.args.self.now c.args.calls
same_stage c =
    stage_is c.args.self.now c.args.calls c.deref.result.now c.deref-2.result.now c.deref-3.result.now
    (c.deref.ensures.value ∙ ap (λ (d : DiskForm). d.first) c.self.view_is)
    (c.deref-2.ensures.value ∙ ap (λ (d : DiskForm). d.written) c.self.view_is)
    (c.deref-3.ensures.value ∙ ap (λ (d : DiskForm). d.calls) c.self.view_is)

pub returns-clause-image : goal.returns-clause-image
returns-clause-image c =
    let now = stage_after c.args.self.now c.args.calls in
    if_ok (λ (v : Vec ℕ Global). IsImage (stage c) v.items) (λ (v : Vec ℕ Global). IsImage now v.items)
    c.stopped_after.result (λ v is. subst (λ (s : Stage). IsImage s v.items) (same_stage c) is) c.stopped_after.ensures.image

pub returns-clause-since : goal.returns-clause-since
returns-clause-since c =
    let d : DiskForm = c.args.self.now in
    let now = stage_after d c.args.calls in
    if_ok (λ (v : Vec ℕ Global). IsImage (stage c) v.items) (λ (v : Vec ℕ Global). WasImage d.first (steps_of d) c.args.calls v.items)
    c.stopped_after.result (λ v is. was_then d c.args.calls v.items c.requires (subst (λ (s : Stage). IsImage s v.items) (same_stage c) is)) c.stopped_after.ensures.image

pub returns-clause-how : goal.returns-clause-how
returns-clause-how c =
    let now = stage_after c.args.self.now c.args.calls in
    if_ok (λ (v : Vec ℕ Global). LeavesBytes c.args.how (stage c) v.items) (λ (v : Vec ℕ Global). LeavesBytes c.args.how now v.items)
    c.stopped_after.result (λ v is. subst (λ (s : Stage). LeavesBytes c.args.how s v.items) (same_stage c) is) c.stopped_after.ensures.how
