-- What is read of a table is what the image has.
use Rattle.std.proofs.Common.{◌≡◌, ℕ, List, ◌∷◌, Result, Ok, Err, sym, ◌∙◌, ap, subst}
use Rattle.std.specs.Prelude.{IfOk, IfErr, OnOk}
use Rattle.sha2.specs.Sha256.{sha256}
use Rattle.zms_units.specs.declared.segments.Group.{Group}
use Rattle.vdev_map.specs.declared.layout.Head.{Head}
use Rattle.vdev_map.specs.declared.layout.Part.{Part}
use Rattle.vdev_map.specs.declared.table.Table.{Table}
use Rattle.uber_ring.specs.TableBytes.{table_in}
use Rattle.uber_ring.specs.TableFields.{Field, Each, IsRight, IsAllRight, ShowsFault, table_bytes, HasTable, HasTableFault}
use Rattle.uber_ring.specs.declared.faults.TableFault.{TableFault}
use Rattle.uber_ring.specs.declared.faults.TableFault.TheVariants.{Failed, Memory, TableDamaged, Malformed}
use Rattle.uber_ring.specs.declared.slot.Uber.{Uber}
use Rattle.uber_ring.proofs.Wrong.{each_right}

-- what holds of the table that the bytes say holds of the one that was read
pub ok_both : {X E : Type 0} (r : Result X E) (P : Type 0) (y : X) (Q : X → Type 0) → (P → Q y) → OnOk r P → IfOk r (λ x. x ≡ y) → IfOk r Q
ok_both (Ok x) P y Q f p is = subst Q (sym is) (f p)
ok_both (Err e) P y Q f p is = tt

module _ (image bytes : List ℕ) (head : Head) (uber : Uber) (same : bytes ≡ table_bytes image uber) where
  pub has_table : {E : Type 0} (r : Result Table E) → OnOk r (sha256 bytes ≡ uber.table_digest) → OnOk r (IsAllRight head uber bytes) → IfOk r (λ table. table ≡ table_in bytes) → IfOk r (HasTable image head uber)
  has_table (Ok table) digest right is = record {
    digest = sym (ap sha256 same) ∙ digest;
    right = subst (λ (b : List ℕ). IsAllRight head uber b) same right;
    is = is ∙ ap table_in same;
  }
  has_table (Err e) digest right is = tt

  fault_of : (fault : TableFault) → ShowsFault head uber (table_bytes image uber) fault → HasTableFault image head uber fault
  fault_of Failed shows = tt
  fault_of Memory shows = tt
  fault_of (TableDamaged g k f) shows = shows
  fault_of (Malformed part at) shows = shows

  pub has_fault : {X : Type 0} (r : Result X TableFault) → IfErr r (ShowsFault head uber bytes) → IfErr r (HasTableFault image head uber)
  has_fault (Ok x) shows = tt
  has_fault (Err fault) shows = fault_of fault (subst (λ (b : List ℕ). ShowsFault head uber b fault) same shows)

-- an image that has a table shows no fault, so a reading of it answers the table, but for the device and memory
module _ (image : List ℕ) (head : Head) (uber : Uber) (table : Table) (has : HasTable image head uber table) where
  pub not_damaged : (of_group : Group) (kept found : List ℕ) → HasTableFault image head uber (TableDamaged of_group kept found) → ⊥
  not_damaged of_group kept found shows = shows.3 (shows.2 ∙ has.digest ∙ sym shows.1)

  pub not_malformed : (part : Part) (at : ℕ) → HasTableFault image head uber (Malformed part at) → ⊥
  not_malformed part at shows =
      let P = IsRight head uber (table_bytes image uber) in
      let wrong = shows.2 in
      let first = wrong.first in
      first.broken (each_right P first.before (wrong.field ∷ first.after) (subst (λ (fields : List Field). Each P fields) first.split has.right)).0

  -- there is one such table
  pub one_table : (other : Table) → HasTable image head uber other → other ≡ table
  one_table other second = second.is ∙ sym has.is

-- the same bytes are the same table
pub has_as : (b c : List ℕ) (head : Head) (uber : Uber) (table : Table) → table_bytes b uber ≡ table_bytes c uber → HasTable b head uber table → HasTable c head uber table
has_as b c head uber table same has = record {
  digest = ap sha256 (sym same) ∙ has.digest;
  right = subst (λ (bytes : List ℕ). IsAllRight head uber bytes) same has.right;
  is = has.is ∙ ap table_in same;
}
