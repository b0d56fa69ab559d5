use Rattle.std.proofs.Common.{◌≡◌, ◌≤◌}
use Rattle.std.specs.Vec.{vec_capacity}
use Rattle.keeper_rows.proofs.Bases.{AreFoundTo}
use Rattle.keeper_rows.proofs.opening.look_over.Given as goal

abbrev pub invariant-loop-number : goal.invariant-loop-number
invariant-loop-number l = record {
  table : l.store.table ≡ l.fn.store.table;
  layout : l.store.layout ≡ l.fn.store.layout;
  bases_room : l.count ≤ vec_capacity l.bases;
  counts_room : l.count ≤ vec_capacity l.held;
  found : AreFoundTo l.layout.vdevs l.bases.items l.held.items l.number;
}
