use Rattle.std.proofs.Common.{ℕ, ◌-◌, length, refl, ap, ◌∙◌}
use Rattle.zms_dev.specs.Bytes.{part}
use Rattle.zms_dev.specs.Disk.{bytes_of}
use Rattle.zms_dev.proofs.Reading.{part_read}
use Rattle.zms_dev.proofs.runs.read_part.Goals as goal

pub returns-clause-part : goal.returns-clause-part
returns-clause-part g c tells =
    part_read (bytes_of (g.D.Disk.state c.args.disk.now)) c.args.at c.in_ok-n.n c.read.new.buf (c.in_ok-n.ensures.bytes tells) (length c.read.new.buf - c.in_ok-n.n) c.fill.new.self refl (c.fill.ensures.after (λ y e. e))
    ∙ ap (λ (k : ℕ). part (bytes_of (g.D.Disk.state c.args.disk.now)) c.args.at k) c.read.auto.buf
