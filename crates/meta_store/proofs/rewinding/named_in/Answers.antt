use Rattle.std.proofs.Common.{◌+◌, ℕ, ap, ◌∙◌}
use Rattle.zms_dev.specs.Disk.{bytes_of}
use Rattle.uber_ring.specs.Numbers.{number_at}
use Rattle.meta_store.proofs.SlotGroups.{number_read}
use Rattle.meta_store.proofs.rewinding.named_in.Goals as goal

pub returns-clause-group : goal.returns-clause-group
returns-clause-group g c tells =
    let image = bytes_of (g.D.Disk.state c.args.disk.now) in
    c.read_u64.ensures ∙ number_read image c.read_part.new.buf (c.slot_place.result + 16) (c.in_ok-read_part.ensures.part tells)
    ∙ ap (λ (p : ℕ). number_at image (p + 16) 8) c.slot_place.ensures
