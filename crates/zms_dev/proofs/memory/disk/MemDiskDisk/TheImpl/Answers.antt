use Rattle.std.proofs.Common.{◌≡◌, length, ap, Result}
use Rattle.std.specs.Prelude.{nat_lt, is_ok}
use Rattle.zms_dev.specs.History.{wrote, lost, flushed, looked, history}
use Rattle.zms_dev.specs.MemoryDisk.{DiskForm, steps_of, stage_of, met, one_step_more}
use Rattle.zms_dev.specs.declared.memory.calls.Call.{Call}
use Rattle.zms_dev.specs.declared.failed.Failed.{Failed}
use Rattle.zms_dev.proofs.Told.{Looks, counted, given_within, one_kind, told_looked, told_time_by, told_wrote, told_flushed}
use Rattle.zms_dev.proofs.memory.disk.MemDiskDisk.TheImpl.Goals as goal

-- a size or a read, by the form and the steps that its clauses give
looks : {T : Type 0} (call : Call) (old new : DiskForm) (result : Result T Failed) → new ≡ met old old.written call (is_ok result) → steps_of new ≡ one_step_more old looked
    → Looks (history old.first (steps_of old)) (history new.first (steps_of new)) old.script.faults new.script.faults result
looks call old new result form steps =
    told_looked old.first (steps_of old) new.first (ap (λ (d : DiskForm). d.first) form) (steps_of new) (nat_lt old.script.made old.script.room)
    old.script new.script result steps (ap (λ (d : DiskForm). d.script) form)

pub size-tells : goal.size-tells
size-tells c =
    let old : DiskForm = c.args.self.now in
    let l = looks _ old c.new.self.now c.result c.ensures.form c.ensures.steps in
    record {
      size = λ tells. c.ensures.size;
      stays = λ tells. l.stays;
      flushes = λ tells. l.flushes;
      kind = l.kind;
      time = l.time;
      cause = l.cause;
    }

pub read-tells : goal.read-tells
read-tells c =
    let old : DiskForm = c.args.self.now in
    let l = looks _ old c.new.self.now c.result c.ensures.form c.ensures.steps in
    record {
      bound = given_within c.result (stage_of old).seen c.args.at c.new.buf.now c.ensures.bytes;
      bytes = λ tells. c.ensures.bytes;
      stays = λ tells. l.stays;
      flushes = λ tells. l.flushes;
      kind = l.kind;
      time = l.time;
      cause = l.cause;
    }

pub write-tells : goal.write-tells
write-tells c =
    let old : DiskForm = c.args.self.now in
    let new : DiskForm = c.new.self.now in
    let same = ap (λ (d : DiskForm). d.first) c.ensures.form in
    let noted = nat_lt old.script.made old.script.room in
    record {
      wrote = λ tells. told_wrote old.first (steps_of old) new.first same (steps_of new) noted c.result c.args.at c.args.bytes.now c.ensures.done c.ensures.failed;
      kind = one_kind old.first (steps_of old) (steps_of new) new.first;
      time = told_time_by old.first (steps_of old) new.first same (steps_of new) noted c.result (wrote c.args.at c.args.bytes.now) (lost c.args.at (length c.args.bytes.now)) c.ensures.done c.ensures.failed;
      cause = counted old.script new.script c.result (ap (λ (d : DiskForm). d.script) c.ensures.form);
    }

pub flush-tells : goal.flush-tells
flush-tells c =
    let old : DiskForm = c.args.self.now in
    let new : DiskForm = c.new.self.now in
    let same = ap (λ (d : DiskForm). d.first) c.ensures.form in
    let noted = nat_lt old.script.made old.script.room in
    record {
      flushed = λ tells. told_flushed old.first (steps_of old) new.first same (steps_of new) noted c.result c.ensures.done c.ensures.failed;
      kind = one_kind old.first (steps_of old) (steps_of new) new.first;
      time = told_time_by old.first (steps_of old) new.first same (steps_of new) noted c.result flushed looked c.ensures.done c.ensures.failed;
      cause = counted old.script new.script c.result (ap (λ (d : DiskForm). d.script) c.ensures.form);
    }
