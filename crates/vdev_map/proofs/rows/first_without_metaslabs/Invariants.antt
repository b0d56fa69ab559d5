use Rattle.std.proofs.Common.{ℕ, ◌<◌, ◌≤◌}
use Rattle.vdev_map.specs.Numbers.{row_at}
use Rattle.vdev_map.proofs.rows.first_without_metaslabs.Given as goal

abbrev pub invariant-loop-v : goal.invariant-loop-v
invariant-loop-v l = (k : ℕ) → k < l.v → 1 ≤ (row_at l.vdevs k).metaslabs
