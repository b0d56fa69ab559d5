-- One tree as its own module's contracts see it.
use Rattle.std.specs.Prelude.{◌≡◌, ℕ, List, length}
use Rattle.zms_units.specs.declared.segments.Seg.{Seg}
use Rattle.zms_units.specs.Segments.{covered}
use Rattle.seg_trees.specs.Sets.{nodes_of}

-- its runs, and for how many there is memory
pub record OneSet : Type 0 where
  pub runs : List Seg
  pub capacity : ℕ

-- its runs are as many as its set has
abbrev pub IsWhole : OneSet → Type 0
IsWhole t = nodes_of (covered t.runs) ≡ length t.runs
