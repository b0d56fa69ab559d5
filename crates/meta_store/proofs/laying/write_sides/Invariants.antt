use Rattle.std.proofs.Common.{◌≡◌, ◌≤◌, length}
use Rattle.zms_dev.specs.Disk.{Tells, bytes_of}
use Rattle.zms_dev.specs.Runs.{Spares}
use Rattle.meta_store.specs.NextGroups.{OffWords, KeepsWords}
use Rattle.meta_store.specs.NextRows.{AreNextRows, HasNextRows, IsRest}
use Rattle.meta_store.proofs.laying.write_sides.Given as goal

abbrev pub invariant-loop-number : goal.invariant-loop-number
invariant-loop-number g l = record {
  within : l.number ≤ length l.table.rows;
  rest : IsRest l.table.vdevs l.batches l.number l.next;
  rows : AreNextRows l.table l.group.0 l.batches l.number l.rows.items;
  words : Tells (g.D.Disk.state l.fn.disk) → KeepsWords (bytes_of (g.D.Disk.state l.fn.disk)) l.head l.table l.group
      → HasNextRows (bytes_of (g.D.Disk.state l.fn.disk)) (bytes_of (g.D.Disk.state l.disk)) l.head l.table l.group l.batches l.number l.rows.items;
  spares : Tells (g.D.Disk.state l.fn.disk) → Spares (OffWords l.head l.table.vdevs l.group) (g.D.Disk.state l.fn.disk) (g.D.Disk.state l.disk);
  flushes : Tells (g.D.Disk.state l.fn.disk) → (g.D.Disk.state l.disk).flushes ≡ (g.D.Disk.state l.fn.disk).flushes;
  steady : g.D.Disk.faults l.disk ≡ g.D.Disk.faults l.fn.disk;
}
