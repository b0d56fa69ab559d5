use Rattle.std.proofs.Common.{◌≡◌, ℕ, ◌<◌}
use Rattle.zms_units.specs.declared.places.Class.TheVariants.{Normal}
use Rattle.vdev_map.specs.Numbers.{row_at}
use Rattle.vdev_text.proofs.totals.has_normal.Given as goal

abbrev pub invariant-loop-row : goal.invariant-loop-row
invariant-loop-row l = (k : ℕ) → k < l.row-index → (row_at l.vdevs k).class ≡ Normal → ⊥
