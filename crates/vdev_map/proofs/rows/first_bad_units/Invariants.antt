use Rattle.std.proofs.Common.{ℕ, ◌<◌}
use Rattle.vdev_map.specs.Limits.{IsUnits}
use Rattle.vdev_map.specs.Numbers.{row_at}
use Rattle.vdev_map.proofs.rows.first_bad_units.Given as goal

abbrev pub invariant-loop-v : goal.invariant-loop-v
invariant-loop-v l = (k : ℕ) → k < l.v → IsUnits (row_at l.vdevs k).units
