use Rattle.std.proofs.Common.{◌≡◌, ℕ, ◌<◌, ◌≤◌}
use Rattle.zms_dev.specs.Bytes.{byte}
use Rattle.uber_ring.proofs.fields.has_zeros.Given as goal

abbrev pub invariant-loop-place : goal.invariant-loop-place
invariant-loop-place l = (k : ℕ) → l.fn.at ≤ k → k < l.place → byte l.bytes k ≡ 0
