use Rattle.std.proofs.Common.{◌+◌, ◌-◌, ◌*◌, ◌<◌, ℕ, length, get_or}
use Rattle.vdev_map.specs.declared.table.MsRow.{MsRow}
use Rattle.uber_ring.specs.TableBytes.{AreZeros}
use Rattle.uber_ring.specs.Encoding.{Changes, IsMsRowAt}
use Rattle.uber_ring.proofs.encode.put_rows.Given as goal

abbrev pub invariant-loop-m : goal.invariant-loop-m
invariant-loop-m l = record {
  changes : Changes l.fn.bytes l.bytes l.fn.first (40 * l.m);
  zeros : AreZeros l.bytes (l.fn.first + 40 * l.m) (40 * (length l.rows - l.m));
  rows : (k : ℕ) (d : MsRow) → k < l.m → IsMsRowAt l.bytes (l.fn.first + 40 * k) (get_or l.rows k d);
}
