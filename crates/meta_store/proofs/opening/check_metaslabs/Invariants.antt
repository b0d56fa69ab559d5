use Rattle.std.proofs.Common.{◌≡◌}
use Rattle.zms_dev.specs.Disk.{Tells, bytes_of}
use Rattle.zms_dev.specs.Runs.{Untouched}
use Rattle.meta_store.proofs.PartByPart.{SoundBelow}
use Rattle.meta_store.proofs.opening.check_metaslabs.Given as goal

abbrev pub invariant-loop-number : goal.invariant-loop-number
invariant-loop-number g l = record {
  sound : Tells (g.D.Disk.state l.fn.disk) → SoundBelow (bytes_of (g.D.Disk.state l.fn.disk)) l.table l.number;
  rests : Tells (g.D.Disk.state l.fn.disk) → Untouched (g.D.Disk.state l.fn.disk) (g.D.Disk.state l.disk);
  steady : g.D.Disk.faults l.disk ≡ g.D.Disk.faults l.fn.disk;
}
