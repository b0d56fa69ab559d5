-- The cells of a pool as contracts see them, and what each of them stands for.
use Rattle.std.specs.Prelude.{◌≡◌, ℕ, false, Option, Some, None, List, length}
use Rattle.zms_units.specs.declared.places.VdevRow.{VdevRow}
use Rattle.zms_units.specs.Segments.{AreSegs}
use Rattle.vdev_map.specs.Numbers.{row_at, IsIn, number_of, metaslabs_in}
use Rattle.vdev_map.specs.Limits.{AreVdevs}
use Rattle.turn_cell.specs.Known.{TableId}
use Rattle.ms_model.specs.Origin.{Origin}
use Rattle.ms_core.specs.Standing.{origin_at}
use Rattle.ms_core.specs.declared.kept.Standing.{Standing}
use Rattle.ms_cell.specs.declared.cells.Cells.TheInside.{Inside}

-- the vdevs, the group that was opened, and the turns of the gate and of each metaslab, in order of vdev and index
pub record Turns : Type 0 where
  pub vdevs : List VdevRow
  pub opened : ℕ
  pub gate : TableId
  pub metaslabs : List TableId

abbrev pub turns_in : {R : Type 0} → Inside R → Turns
turns_in c = record { vdevs = c.layout.vdevs; opened = c.opened.0; gate = c.gate; metaslabs = c.metaslabs.items }

-- the vdevs are within the limits, and there is a turn for each metaslab
pub record AreCells (t : Turns) : Type 0 where
  pub vdevs : AreVdevs t.vdevs
  pub count : length t.metaslabs ≡ metaslabs_in t.vdevs

abbrev pub AreCellsInside : {R : Type 0} → Inside R → Type 0
AreCellsInside c = AreCells (turns_in c)

-- what the metaslab of this number stands for: its name, the units and the shift of its vdev, and the opened group
pub record StandsAt (vdevs : List VdevRow) (opened number : ℕ) (s : Standing) : Type 0 where
  pub inside : IsIn vdevs s.id
  pub place : number_of vdevs s.id ≡ number
  pub units : s.units ≡ (row_at vdevs s.id.vdev).units
  pub ashift : s.ashift ≡ (row_at vdevs s.id.vdev).ashift
  pub group : s.opened.0 ≡ opened
  pub base : AreSegs s.units s.base

-- what a metaslab was when its pool was opened, by what its pass says that it stands for
abbrev pub origin_from : Option Standing → Origin
origin_from None = record { units = 0; ashift = 0; opened = 0; base = λ _. false }
origin_from (Some s) = origin_at s
