use Rattle.std.proofs.Common.{◌≡◌, ◌-◌, None}
use Rattle.turn_cell.specs.Notes.{IsPrefix}
use Rattle.pool_keeper.specs.Keeper.{IsSound}
use Rattle.pool_keeper.proofs.keeper.Keeper.commit_to.Given as goal

abbrev pub invariant-groups : goal.invariant-groups
invariant-groups g l = record {
  sound : IsSound g.D.Disk.state g.D.Disk.faults l.self;
  start : l.self.start ≡ l.fn.self.start;
  idle : l.self.first ≡ None;
  notes : l.self.notes ≡ l.fn.self.notes;
  later : IsPrefix l.fn.self.passes.gate.seen l.self.passes.gate.seen;
}

abbrev pub decreases-groups : goal.decreases-groups
decreases-groups g l = l.group.0 - l.self.store.table.group.0
