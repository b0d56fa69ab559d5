use Rattle.std.proofs.Common.{ℕ, ap, ◌∙◌, sym}
use Rattle.zms_dev.specs.Disk.{bytes_of}
use Rattle.uber_ring.specs.Numbers.{bytes_at}
use Rattle.uber_ring.proofs.NewestSoFar.{read_valid}
use Rattle.uber_ring.proofs.Pieces.{bytes_at_is_part}
use Rattle.uber_ring.proofs.ring.read_slot.Goals as goal

pub returns-clause-found : goal.returns-clause-found
returns-clause-found g c tells =
    let image = bytes_of (g.D.Disk.state c.args.disk.now) in
    read_valid image c.read_part.new.buf c.args.slot c.uber_in_slot.result c.requires
    (c.in_ok-read_part.ensures.part tells ∙ sym (bytes_at_is_part image c.slot_place.result 1024) ∙ ap (λ (p : ℕ). bytes_at image p 1024) c.slot_place.ensures) c.uber_in_slot.ensures
