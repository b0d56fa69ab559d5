use Rattle.std.proofs.Common.{◌≡◌, ◌+◌, ◌≤◌, false, length, refl, arith}
use Rattle.std.specs.Prelude.{nat_le}
use Rattle.zms_dev.specs.History.{lost}
use Rattle.zms_dev.proofs.Recording.{sound_quiet, sound_written, fitted}
use Rattle.zms_dev.proofs.memory.disk.MemDiskDisk.write.Goals as goal

pub invariant_of-self : goal.invariant_of-self
invariant_of-self c =
    sound_quiet c.self.inside c.self.invariant c.note.new.calls c.note.new.script _ (lost c.args.at (length c.args.bytes.now)) false c.in_err-note.ensures.calls c.in_err-note.ensures.script c.note.ensures.capacity (λ w. refl) (λ s. refl)

pub append-requires : goal.append-requires
append-requires c =
    let n = length c.args.bytes.now in
    let within : c.len-2.result + n ≤ c.self.inside.room =
    fitted c.self.inside.script c.has_room-room.result (nat_le (c.args.at + n) c.self.inside.end) (c.len-2.result + n) c.self.inside.room c.in_ok-note.ensures.answer c.has_room-room.ensures in
    omega (arith, c.len-2.ensures, c.self.inside.written.ok.0, c.self.invariant.written_fit)

pub invariant_of-self-2 : goal.invariant_of-self-2
invariant_of-self-2 c =
    let n = length c.args.bytes.now in
    let from_is : c.len.result ≡ length c.self.inside.written.items = omega (arith, c.len.ensures, c.self.inside.written.ok.0) in
    let fit : c.len-2.result + n ≤ c.self.inside.room =
    fitted c.self.inside.script c.has_room-room.result (nat_le (c.args.at + n) c.self.inside.end) (c.len-2.result + n) c.self.inside.room c.in_ok-note.ensures.answer c.has_room-room.ensures in
    let within : length c.self.inside.written.items + n ≤ c.self.inside.room = omega (arith, c.len-2.ensures, c.self.inside.written.ok.0) in
    sound_written c.self.inside c.self.invariant c.overwrite.new.file c.append.new.into c.note.new.calls c.note.new.script c.args.at c.args.bytes.now c.len.result c.has_room-room.result
    from_is c.in_ok-note.ensures.answer c.in_ok-note.ensures.calls c.in_ok-note.ensures.script c.note.ensures.capacity c.append.ensures.bytes within c.append.ensures.capacity c.overwrite.ensures.bytes c.overwrite.ensures.capacity
