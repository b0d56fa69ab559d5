use Rattle.std.proofs.Common.{◌≡◌, ◌+◌, ◌≤◌, ℕ, List, length}
use Rattle.std.specs.Prelude.{is_some, count_by}
use Rattle.zms_dev.specs.Disk.{Tells}
use Rattle.zms_dev.specs.Runs.{LeavesOnly, Spares}
use Rattle.uber_ring.specs.declared.slot.Uber.{Uber}
use Rattle.meta_store.specs.Rewinds.{IsRewinding, IsTurned, ArePlaced, Adds, HasClosed, IsNoGate, others_in}
use Rattle.meta_store.proofs.rewinding.close_others.Given as goal

abbrev pub invariant-loop-group : goal.invariant-loop-group
invariant-loop-group g l = record {
  len : length l.groups ≡ 128;
  placed : ArePlaced l.groups 128;
  run : (uber : Uber) (start : List ℕ) → uber.group ≡ l.opened → 135168 ≤ length start → IsTurned uber start (g.D.Disk.state l.fn.disk) l.fn.groups
      → LeavesOnly (g.D.Disk.state l.fn.disk) (g.D.Disk.state l.disk) (IsRewinding uber start);
  turned : (uber : Uber) (start : List ℕ) → uber.group ≡ l.opened → 135168 ≤ length start → IsTurned uber start (g.D.Disk.state l.fn.disk) l.fn.groups
      → IsTurned uber start (g.D.Disk.state l.disk) l.groups;
  tells : Tells (g.D.Disk.state l.fn.disk) → Tells (g.D.Disk.state l.disk);
  flushes : Tells (g.D.Disk.state l.fn.disk) → Adds (g.D.Disk.state l.fn.disk) (g.D.Disk.state l.disk);
  closed : Tells (g.D.Disk.state l.fn.disk)
      → (n : ℕ) × ((n + others_in l.groups l.opened ≡ others_in l.fn.groups l.opened) × HasClosed n (g.D.Disk.state l.fn.disk) (g.D.Disk.state l.disk));
  spares : Tells (g.D.Disk.state l.fn.disk) → Spares IsNoGate (g.D.Disk.state l.fn.disk) (g.D.Disk.state l.disk);
  steady : g.D.Disk.faults l.disk ≡ g.D.Disk.faults l.fn.disk;
}

abbrev pub decreases-loop-group : goal.decreases-loop-group
decreases-loop-group g l = count_by is_some l.groups
