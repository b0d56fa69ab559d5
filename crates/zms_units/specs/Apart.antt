-- Lists of runs that do not touch.
use Rattle.std.specs.Prelude.{ℕ, ◌+◌, ◌<◌, ◌≤◌, List, [], ◌∷◌}
use Rattle.zms_units.specs.declared.segments.Seg.{Seg}
use Rattle.zms_units.specs.Segments.{end_of}

-- runs that are not empty, rise with a unit between each and the next, begin at or after a unit, and after which
-- another run might begin at this one
abbrev pub AreApartFrom : ℕ → ℕ → List Seg → Type 0
AreApartFrom low next [] = low ≤ next
AreApartFrom low next (run ∷ runs) = (low ≤ run.start) × (0 < run.count) × AreApartFrom (end_of run + 1) next runs

-- a list of runs, and among how many units they lie
pub record RunList : Type 0 where
  pub range : ℕ
  pub runs : List Seg
