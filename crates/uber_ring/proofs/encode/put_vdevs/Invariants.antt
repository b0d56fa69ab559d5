use Rattle.std.proofs.Common.{◌+◌, ◌-◌, ◌*◌, ◌<◌, ℕ, length}
use Rattle.vdev_map.specs.Numbers.{row_at}
use Rattle.uber_ring.specs.TableBytes.{AreZeros}
use Rattle.uber_ring.specs.Encoding.{Changes, IsVdevAt}
use Rattle.uber_ring.proofs.encode.put_vdevs.Given as goal

abbrev pub invariant-loop-v : goal.invariant-loop-v
invariant-loop-v l = record {
  changes : Changes l.fn.bytes l.bytes l.fn.first (32 * l.v);
  zeros : AreZeros l.bytes (l.fn.first + 32 * l.v) (32 * (length l.rows - l.v));
  rows : (k : ℕ) → k < l.v → IsVdevAt l.bytes (l.fn.first + 32 * k) (row_at l.rows k);
}
