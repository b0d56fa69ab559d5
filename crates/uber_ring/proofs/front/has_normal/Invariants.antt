use Rattle.std.proofs.Common.{◌≡◌, ℕ, ◌<◌}
use Rattle.uber_ring.specs.Numbers.{number_at}
use Rattle.uber_ring.specs.TableBytes.{vdev_at}
use Rattle.uber_ring.proofs.front.has_normal.Given as goal

abbrev pub invariant-loop-v : goal.invariant-loop-v
invariant-loop-v l = (k : ℕ) → k < l.v → number_at l.bytes (vdev_at k) 4 ≡ 0 → ⊥
