use Rattle.std.proofs.Common.{◌+◌, ◌*◌, ◌<◌, ℕ, get_or}
use Rattle.vdev_map.specs.declared.table.LogRow.{LogRow}
use Rattle.uber_ring.specs.Encoding.{Changes, IsLogAt}
use Rattle.uber_ring.proofs.encode.put_logs.Given as goal

abbrev pub invariant-loop-l : goal.invariant-loop-l
invariant-loop-l l = record {
  changes : Changes l.fn.bytes l.bytes l.fn.first (48 * l.l);
  rows : (k : ℕ) (d : LogRow) → k < l.l → IsLogAt l.bytes (l.fn.first + 48 * k) (get_or l.rows k d);
}
