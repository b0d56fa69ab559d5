use Rattle.std.proofs.Common.{◌≡◌, ℕ, ◌<◌}
use Rattle.class_core.specs.Groups.{group_at}
use Rattle.class_core.proofs.cell.place_of.Given as goal

abbrev pub invariant-loop-place : goal.invariant-loop-place
invariant-loop-place l = (k : ℕ) → k < l.place → (group_at l.groups k).vdev ≡ l.vdev → ⊥
