-- What a look through a segment finds.
use Rattle.std.specs.Prelude.{ℕ, ◌+◌, ◌≤◌, Bool, List, Option, IfSome, IfNone}
use Rattle.std.specs.List.{list_any}
use Rattle.zms_units.specs.declared.segments.Seg.{Seg}
use Rattle.ms_model.specs.declared.notes.Act.{Act}
use Rattle.ms_model.specs.declared.notes.Act.TheVariants.{Settle}
use Rattle.seg_trees.specs.Sets.{Sets, HoldsNone, IsLowest}
use Rattle.ms_core.specs.declared.tree.Tree.{Tree}
use Rattle.ms_core.specs.Mirrors.{number_of}

-- is a unit in one of these trees?
abbrev pub in_any : Sets → List Tree → ℕ → Bool
in_any sets trees u = list_any (λ tree. sets (number_of tree) u) trees

-- the lowest unit of a segment that is in a set, if there is one
abbrev pub Finds : (ℕ → Bool) → Seg → Option ℕ → Type 0
Finds set seg found = IfSome found (IsLowest set seg) × IfNone found (HoldsNone set seg)

-- a settle of a group at least three before another
abbrev pub IsSettleBefore : Act → ℕ → Type 0
IsSettleBefore (Settle settled) group = settled.0 + 3 ≤ group
IsSettleBefore _ group = ⊥
