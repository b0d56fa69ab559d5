-- How many runs there may be.
use Rattle.std.proofs.Common.{ℕ, ◌+◌, ◌≤◌, List, [], ◌∷◌, length, arith}
use Rattle.zms_units.specs.declared.segments.Seg.{Seg}
use Rattle.zms_units.specs.Segments.{end_of}
use Rattle.zms_units.specs.Apart.{AreApartFrom}

-- each run takes up a unit at least
pub length_fits : (low next : ℕ) (runs : List Seg) → AreApartFrom low next runs → low + length runs ≤ next
length_fits low next [] a = omega arith
length_fits low next (r ∷ rs) a = omega (arith, length_fits (end_of r + 1) next rs a.2)
