use Rattle.std.proofs.Common.{ℕ, ◌<◌}
use Rattle.vdev_map.specs.Limits.{IsShift}
use Rattle.vdev_map.specs.Numbers.{row_at}
use Rattle.vdev_map.proofs.rows.first_bad_shift.Given as goal

abbrev pub invariant-loop-v : goal.invariant-loop-v
invariant-loop-v l = (k : ℕ) → k < l.v → IsShift (row_at l.vdevs k).ashift
