use Rattle.std.proofs.Common.{◌≡◌, ◌≤◌}
use Rattle.std.specs.Vec.{vec_capacity}
use Rattle.lane_rows.proofs.Finding.{AreFoundTo}
use Rattle.lane_rows.proofs.opening.find_bases.Given as goal

abbrev pub invariant-loop-number : goal.invariant-loop-number
invariant-loop-number l = record {
  table : l.store.table ≡ l.fn.store.table;
  layout : l.store.layout ≡ l.fn.store.layout;
  room : l.count ≤ vec_capacity l.bases;
  found : AreFoundTo l.layout.vdevs l.fn.store.table l.bases.items l.number;
}
