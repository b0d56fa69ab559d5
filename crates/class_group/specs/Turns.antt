-- The classes of a pool as contracts see them, and what each of them stands for.
use Rattle.std.specs.Prelude.{◌≡◌, ℕ, Option, Some, None, List, [], length}
use Rattle.zms_units.specs.declared.places.Class.{Class}
use Rattle.zms_units.specs.declared.places.Class.TheVariants.{Normal, Log, Special, Dedup}
use Rattle.zms_units.specs.declared.places.VdevRow.{VdevRow}
use Rattle.vdev_map.specs.Limits.{AreVdevs}
use Rattle.vdev_map.specs.Numbers.{row_at, metaslabs_in}
use Rattle.turn_cell.specs.Known.{TableId}
use Rattle.class_model.specs.declared.origin.ClassOrigin.{ClassOrigin}
use Rattle.class_core.specs.Classes.{IsOriginOf}
use Rattle.class_group.specs.declared.classes.Classes.TheInside.{Inside}

-- the vdevs, the first weight of each metaslab in order of vdev and index, and the turns of the four classes in their order
pub record ClassTurns : Type 0 where
  pub vdevs : List VdevRow
  pub weights : List ℕ
  pub cells : List TableId

abbrev pub turns_in : Inside → ClassTurns
turns_in c = record { vdevs = c.vdevs; weights = c.weights.value; cells = c.cells.items }

-- the vdevs are within the limits, each metaslab has a weight, and each class a turn
pub record AreClasses (t : ClassTurns) : Type 0 where
  pub vdevs : AreVdevs t.vdevs
  pub weights : length t.weights ≡ metaslabs_in t.vdevs
  pub count : length t.cells ≡ 4

abbrev pub AreClassesInside : Inside → Type 0
AreClassesInside c = AreClasses (turns_in c)

-- where a class stands among the four
abbrev pub place_of : Class → ℕ
place_of Normal = 0
place_of Log = 1
place_of Special = 2
place_of Dedup = 3

-- and where the class of a vdev does
abbrev pub place_for : List VdevRow → ℕ → ℕ
place_for vdevs v = place_of (row_at vdevs v).class

-- what the class at a place stands for: its vdevs and their first weights
abbrev pub StandsAt : List VdevRow → List ℕ → ℕ → ClassOrigin → Type 0
StandsAt vdevs weights place o = (class : Class) → place_of class ≡ place → IsOriginOf vdevs class weights o

-- what a class was when its pool was opened, by what its pass says that it stands for
abbrev pub origin_from : Option ClassOrigin → ClassOrigin
origin_from None = record { class = Normal; vdevs = [] }
origin_from (Some o) = o
