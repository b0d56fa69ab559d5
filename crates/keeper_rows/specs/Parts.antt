-- What the parts of a row's pool have in common.
use Rattle.std.specs.Prelude.{◌≡◌, ℕ, ◌<◌, Some, List, [], length, slice_get}
use Rattle.zms_units.specs.declared.segments.Seg.{Seg}
use Rattle.zms_units.specs.declared.places.MsId.{MsId}
use Rattle.zms_units.specs.declared.places.VdevRow.{VdevRow}
use Rattle.zms_units.specs.Segments.{AreSegs, covered}
use Rattle.zms_units.specs.Runs.{units_in}
use Rattle.vdev_map.specs.Numbers.{IsIn, number_of, row_at, metaslabs_in}
use Rattle.vdev_map.specs.declared.table.Table.{Table}
use Rattle.turn_cell.specs.Known.{Known, TableId}
use Rattle.turn_passes.specs.Parts.{IsRest}
use Rattle.turn_passes.specs.Pairs.{Each}
use Rattle.ms_model.specs.Units.{held}
use Rattle.ms_cell.specs.Turns.{Turns}
use Rattle.ms_cell.specs.Passes.{Passes, AreRests, origin_in}
use Rattle.class_group.specs.Turns.{ClassTurns}
use Rattle.class_group.specs.Passes.{AreRests as AreClassRests}
use Rattle.meta_store.specs.Stores.{StoreState}
use Rattle.meta_store.specs.Words.{row_of}
use Rattle.pool_keeper.specs.Notes.{KeeperNoted}
use Rattle.pool_keeper.specs.Keeper.{IsOf}
use Rattle.pool_keeper.specs.declared.keeper.Start.{Start}
use Rattle.keeper_rows.specs.declared.seats.Seats.{Seats}

-- runs of one metaslab, and how many units they are
pub record IsBase (units : ℕ) (base : List Seg) (count : ℕ) : Type 0 where
  pub segs : AreSegs units base
  pub total : units_in (covered base) units ≡ count

-- those of each metaslab, in order
pub record AreFound (vdevs : List VdevRow) (bases : List (List Seg)) (counts : List ℕ) : Type 0 where
  pub bases_count : length bases ≡ metaslabs_in vdevs
  pub counts_count : length counts ≡ metaslabs_in vdevs
  pub each : (id : MsId) (base : List Seg) (count : ℕ) → IsIn vdevs id → slice_get bases (number_of vdevs id) ≡ Some base → slice_get counts (number_of vdevs id) ≡ Some count
      → IsBase (row_at vdevs id.vdev).units base count

-- the rows of the first few metaslabs count so many units
abbrev pub CountsTo : List VdevRow → List ℕ → Table → ℕ → Type 0
CountsTo vdevs counts table few = (id : MsId) → IsIn vdevs id → number_of vdevs id < few → slice_get counts (number_of vdevs id) ≡ Some (row_of table id).held

-- a store at the group of the cells, whose rows count so many units
pub record IsCounted {D : Type 0} (t : Turns) (counts : List ℕ) (store : StoreState D) : Type 0 where
  pub vdevs : t.vdevs ≡ store.layout.vdevs
  pub opened : t.opened ≡ store.table.group.0
  pub many : length t.metaslabs ≡ metaslabs_in t.vdevs
  pub each : (id : MsId) → IsIn t.vdevs id → slice_get counts (number_of t.vdevs id) ≡ Some (row_of store.table id).held

-- passes of cells whose bases are so many units
pub record KnowUnits (t : Turns) (counts : List ℕ) (p : Passes) : Type 0 where
  pub count : length counts ≡ length p.metaslabs
  pub each : (id : MsId) (count : ℕ) → IsIn t.vdevs id → slice_get counts (number_of t.vdevs id) ≡ Some count
      → count ≡ units_in (held (origin_in p (number_of t.vdevs id)) [] t.opened) (row_at t.vdevs id.vdev).units

-- passes that stand for the same metaslabs
abbrev pub StandAlike : Passes → Passes → Type 0
StandAlike p q = Each (λ k c d. d.fixed ≡ c.fixed) p.metaslabs q.metaslabs

-- the rest of the rights at cells and classes of one pool, from a right on
pub record AreSeats (right : ℕ) (t : Turns) (c : ClassTurns) (s : Seats) : Type 0 where
  pub cells : AreRests right t s.cells
  pub classes : AreClassRests right c s.classes
  pub one : c.vdevs ≡ t.vdevs

-- the rest of the rights at the turn of a keeper of these cells, from a right on
pub record IsKeeperRest {D R : Type 0} (right : ℕ) (t : Turns) (turn : TableId) (p : Known KeeperNoted (Start D R)) : Type 0 where
  pub rest : IsRest right turn p
  pub start : Start D R
  pub is : p.fixed ≡ Some start
  pub of : IsOf t start
