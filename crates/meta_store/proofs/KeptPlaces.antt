-- Where the kept places of a group lie.
use Rattle.std.proofs.Common.{◌≡◌, ◌⊎◌, inl, inr, ℕ, ◌<◌, ◌≤◌, List, length, refl, sym, ◌∙◌, ap, subst, arith}
use Rattle.zms_units.specs.declared.places.MsId.{MsId}
use Rattle.vdev_map.specs.Numbers.{IsIn}
use Rattle.vdev_map.specs.Places.{slot_place, table_place, metaslabs_place}
use Rattle.vdev_map.specs.Tables.{IsGroup, IsTable}
use Rattle.vdev_map.specs.declared.layout.Form.{Form}
use Rattle.vdev_map.specs.declared.layout.Form.TheVariants.{Whole, Logged}
use Rattle.vdev_map.specs.declared.layout.Head.{Head}
use Rattle.vdev_map.specs.declared.table.Table.{Table}
use Rattle.uber_ring.specs.TableFields.{HasTable, table_bytes}
use Rattle.uber_ring.specs.TableBytes.{table_in}
use Rattle.uber_ring.specs.Writes.{Within}
use Rattle.uber_ring.specs.declared.slot.Uber.{Uber}
use Rattle.uber_ring.specs.Numbers.{number_at}
use Rattle.uber_ring.proofs.Pieces.{length-bytes_at}
use Rattle.uber_ring.proofs.RightTables.{table_right}
use Rattle.meta_store.specs.Groups.{HasRows}
use Rattle.meta_store.specs.Kept.{IsKept, LiesIn}
use Rattle.meta_store.specs.Words.{words_place}
use Rattle.meta_store.proofs.RowPlaces.{has_row}

-- the table that an image has is within the limits
pub rows_fit : (image : List ℕ) (uber : Uber) (head : Head) (table : Table) → IsGroup uber.group.0 → HasRows image uber head table → IsTable head table
rows_fit image uber head table grouped has =
    subst (λ (t : Table). IsTable head t) (sym has.has_table.is) (table_right head uber (table_bytes image uber) has.has_table.right grouped)

-- metaslabs begin behind the tables
pub behind_tables : (form : Form) (flush log : ℕ) → 2232320 ≤ metaslabs_place form flush log
behind_tables Whole flush log = omega arith
behind_tables Logged flush log = omega arith

pub words_behind : (head : Head) (table : Table) (id : MsId) → IsTable head table → IsIn table.vdevs id → 2232320 ≤ words_place table id
words_behind head table id fits in_ =
    omega (arith, fits.places _ (has_row head table fits id in_) id in_ refl, behind_tables head.form head.flush head.log)

-- a kept place lies in the head, in the group's own slot, or behind the ring
pub kept_where : (image : List ℕ) (uber : Uber) (p : ℕ) → IsGroup uber.group.0 → IsKept image uber p → (p < 64) ⊎ (Within (slot_place uber.group.0) 1024 p ⊎ (135168 ≤ p))
kept_where image uber p grouped (IsKept.head lt) = inl lt
kept_where image uber p grouped (IsKept.slot here) = inr (inl here)
kept_where image uber p grouped (IsKept.table here) = inr (inr (omega (arith, here.0)))
kept_where image uber p grouped (IsKept.words head table id has in_ here) = inr (inr (omega (arith, here.0, words_behind head table id (rows_fit image uber head table grouped has) in_)))

-- a table has bytes, so an image in which a group lies whole has its ring
pub ring_lies : (image : List ℕ) (uber : Uber) (head : Head) (table : Table) → HasRows image uber head table → LiesIn image uber → 135168 < length image
ring_lies image uber head table has lies =
    let some : 64 ≤ uber.table_len = omega (arith, (has.has_table.right.0).0, length-bytes_at image (table_place uber.group.0) uber.table_len) in
    omega (arith, lies (table_place uber.group.0) (IsKept.table (omega arith, omega arith)))

-- the group of a table is that of its slot
pub group_of_table : (image : List ℕ) (uber : Uber) (head : Head) (table : Table) → HasTable image head uber table → uber.group ≡ table.group
group_of_table image uber head table has =
    let named : number_at (table_bytes image uber) 8 8 ≡ uber.group.0 = has.right.1.0 in
    let is : table.group ≡ (table_in (table_bytes image uber)).group = ap (λ (t : Table). t.group) has.is in
    (λ i. record { 0 = sym named i }) ∙ sym is
