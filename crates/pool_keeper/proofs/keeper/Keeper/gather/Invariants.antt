use Rattle.std.proofs.Common.{◌≡◌, ◌≤◌, length}
use Rattle.turn_cell.specs.Notes.{IsPrefix}
use Rattle.pool_keeper.specs.Keeper.{IsSound}
use Rattle.pool_keeper.proofs.keeper.Keeper.gather.Given as goal

abbrev pub invariant-loop-number : goal.invariant-loop-number
invariant-loop-number g l = record {
  sound : IsSound g.D.Disk.state g.D.Disk.faults l.self;
  start : l.self.start ≡ l.fn.self.start;
  store : l.self.store ≡ l.fn.self.store;
  first : l.self.first ≡ l.fn.self.first;
  notes : l.self.notes ≡ l.fn.self.notes;
  later : IsPrefix l.fn.self.passes.gate.seen l.self.passes.gate.seen;
  at : length l.self.gathered.items ≡ l.number;
  few : l.number ≤ length l.cells.metaslabs;
}
