use Rattle.std.proofs.Common.{true, false, refl}
use Rattle.zms_dev.specs.History.{looked}
use Rattle.zms_dev.proofs.Recording.{sound_quiet}
use Rattle.zms_dev.proofs.memory.disk.MemDiskDisk.size.Goals as goal

pub invariant_of-self : goal.invariant_of-self
invariant_of-self c =
    sound_quiet c.self.inside c.self.invariant c.note.new.calls c.note.new.script _ looked false c.in_err-note.ensures.calls c.in_err-note.ensures.script c.note.ensures.capacity (λ w. refl) (λ s. refl)

pub invariant_of-self-2 : goal.invariant_of-self-2
invariant_of-self-2 c =
    sound_quiet c.self.inside c.self.invariant c.note.new.calls c.note.new.script _ looked true c.in_ok-note.ensures.calls c.in_ok-note.ensures.script c.note.ensures.capacity (λ w. refl) (λ s. refl)
