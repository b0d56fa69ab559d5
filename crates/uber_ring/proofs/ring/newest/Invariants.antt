use Rattle.std.proofs.Common.{◌≡◌}
use Rattle.std.specs.Prelude.{IfSome}
use Rattle.zms_dev.specs.Disk.{Tells, bytes_of}
use Rattle.zms_dev.specs.Runs.{Untouched}
use Rattle.uber_ring.specs.Slots.{IsUber}
use Rattle.uber_ring.proofs.NewestSoFar.{NewestBelow}
use Rattle.uber_ring.proofs.ring.newest.Given as goal

abbrev pub invariant-loop-slot : goal.invariant-loop-slot
invariant-loop-slot g l = record {
  limits : IfSome l.best (λ uber. IsUber uber);
  found : Tells (g.D.Disk.state l.fn.disk) → NewestBelow (bytes_of (g.D.Disk.state l.fn.disk)) l.slot l.best;
  rests : Tells (g.D.Disk.state l.fn.disk) → Untouched (g.D.Disk.state l.fn.disk) (g.D.Disk.state l.disk);
  flushes : Tells (g.D.Disk.state l.fn.disk) → (g.D.Disk.state l.disk).flushes ≡ (g.D.Disk.state l.fn.disk).flushes;
  steady : g.D.Disk.faults l.disk ≡ g.D.Disk.faults l.fn.disk;
}
