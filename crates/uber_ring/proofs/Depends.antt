-- Slots and tables depend on their own bytes alone: images that agree there show the same.
use Rattle.std.proofs.Common.{◌≡◌, ℕ, ◌+◌, ◌<◌, ◌≤◌, List, sym, subst}
use Rattle.zms_dev.specs.Bytes.{byte}
use Rattle.vdev_map.specs.Places.{slot_place, table_place}
use Rattle.vdev_map.specs.declared.layout.Head.{Head}
use Rattle.vdev_map.specs.declared.table.Table.{Table}
use Rattle.uber_ring.specs.Slots.{IsValidSlot, IsValid}
use Rattle.uber_ring.specs.TableFields.{HasTable, HasTableFault, ShowsFault, table_bytes}
use Rattle.uber_ring.specs.declared.faults.TableFault.{TableFault}
use Rattle.uber_ring.specs.declared.faults.TableFault.TheVariants.{Failed, Memory, TableDamaged, Malformed}
use Rattle.uber_ring.specs.declared.slot.Uber.{Uber}
use Rattle.uber_ring.proofs.Pieces.{bytes_at_same}
use Rattle.uber_ring.proofs.ReadTables.{has_as}

-- two images agree on the n bytes from a place on
abbrev pub Agree : List ℕ → List ℕ → ℕ → ℕ → Type 0
Agree b c at n = (p : ℕ) → at ≤ p → p < at + n → byte c p ≡ byte b p

module _ (b c : List ℕ) (uber : Uber) where
  pub valid_agrees : Agree b c (slot_place uber.group.0) 1024 → IsValid b uber → IsValid c uber
  valid_agrees agree valid = subst (λ (slot : List ℕ). IsValidSlot slot uber) (sym (bytes_at_same b c (slot_place uber.group.0) 1024 agree)) valid

  module _ (head : Head) (agree : Agree b c (table_place uber.group.0) uber.table_len) where
    same : table_bytes c uber ≡ table_bytes b uber
    same = bytes_at_same b c (table_place uber.group.0) uber.table_len agree

    pub table_agrees : (table : Table) → HasTable b head uber table → HasTable c head uber table
    table_agrees table has = has_as b c head uber table (sym same) has

    pub fault_agrees : (fault : TableFault) → HasTableFault b head uber fault → HasTableFault c head uber fault
    fault_agrees Failed shows = tt
    fault_agrees Memory shows = tt
    fault_agrees (TableDamaged g k f) shows = subst (λ (bytes : List ℕ). ShowsFault head uber bytes (TableDamaged g k f)) (sym same) shows
    fault_agrees (Malformed part at) shows = subst (λ (bytes : List ℕ). ShowsFault head uber bytes (Malformed part at)) (sym same) shows
