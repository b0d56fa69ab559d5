use Rattle.std.specs.Prelude.{is_ok}
use Rattle.zms_dev.proofs.Recording.{sound_flushed}
use Rattle.zms_dev.proofs.memory.disk.MemDiskDisk.flush.Goals as goal

pub invariant_of-self : goal.invariant_of-self
invariant_of-self c =
    sound_flushed c.self.inside c.self.invariant c.note.new.calls c.note.new.script (is_ok c.note.result) c.note.ensures.calls c.note.ensures.script c.note.ensures.capacity
