use Rattle.std.proofs.Common.{◌≡◌, length}
use Rattle.zms_dev.specs.Disk.{Tells, bytes_of}
use Rattle.zms_dev.specs.Runs.{Untouched}
use Rattle.meta_store.specs.Rewinds.{IsRing, ArePlaced}
use Rattle.meta_store.proofs.rewinding.read_ring.Given as goal

abbrev pub invariant-loop-slot : goal.invariant-loop-slot
invariant-loop-slot g l = record {
  len : length l.groups ≡ 128;
  ring : Tells (g.D.Disk.state l.fn.disk) → IsRing (bytes_of (g.D.Disk.state l.fn.disk)) l.groups l.slot;
  placed : ArePlaced l.groups l.slot;
  rests : Tells (g.D.Disk.state l.fn.disk) → Untouched (g.D.Disk.state l.fn.disk) (g.D.Disk.state l.disk);
  steady : g.D.Disk.faults l.disk ≡ g.D.Disk.faults l.fn.disk;
}
