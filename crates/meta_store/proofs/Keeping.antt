-- What a group has depends on its kept places alone: an image that is the same there has the same group, finds the same in
-- it, and shows the same cause why it is not opened.
use Rattle.std.proofs.Common.{◌≡◌, inl, inr, ℕ, List, sym, subst, arith}
use Rattle.zms_dev.specs.Bytes.{byte, Torn}
use Rattle.zms_units.specs.declared.faults.Damage.{Damage}
use Rattle.zms_units.specs.declared.places.MsId.{MsId}
use Rattle.vdev_map.specs.Numbers.{IsIn}
use Rattle.vdev_map.specs.Places.{slot_place, table_place}
use Rattle.vdev_map.specs.declared.layout.Head.{Head}
use Rattle.vdev_map.specs.declared.table.Table.{Table}
use Rattle.uber_ring.specs.Slots.{IsValid}
use Rattle.uber_ring.specs.declared.faults.TableFault.{TableFault}
use Rattle.uber_ring.specs.declared.head.HeadFault.{HeadFault}
use Rattle.uber_ring.specs.declared.head.HeadFault.TheVariants.{HeadDamaged as DamagedHead, Malformed as MalformedHead}
use Rattle.uber_ring.specs.declared.slot.Uber.{Uber}
use Rattle.uber_ring.proofs.Depends.{Agree, valid_agrees, table_agrees, fault_agrees}
use Rattle.uber_ring.proofs.Pieces.{bytes_at_same}
use Rattle.space_map.specs.Replay.{Replays}
use Rattle.space_map.specs.declared.places.MapKind.TheVariants.{Side}
use Rattle.meta_store.specs.Causes.{HasNoTable, HasDamage, ShowsOf, ShowsDamage}
use Rattle.meta_store.specs.Groups.{HasRows, IsSound, HasGroup, Contents, Finds}
use Rattle.meta_store.specs.Heads.{head_bytes, IsWholeHead, IsNoHead}
use Rattle.meta_store.specs.Kept.{IsKept, LiesIn}
use Rattle.meta_store.specs.Words.{row_of, units_of, words_place, words_in, HoldUnits}
use Rattle.meta_store.specs.declared.causes.OpenCause.{OpenCause}
use Rattle.meta_store.specs.declared.causes.OpenCause.TheVariants.{NoSlot, NotRetained, Spent, HeadDamaged, TableDamaged, Malformed, MapDamaged}
use Rattle.meta_store.proofs.WordsAt.{words_at_same}

-- two images agree on all that a group of the first keeps
abbrev pub SameKept : List ℕ → List ℕ → Uber → Type 0
SameKept b c uber = (p : ℕ) → IsKept b uber p → byte c p ≡ byte b p

module _ (b c : List ℕ) (uber : Uber) (same : SameKept b c uber) where
  head_agrees : head_bytes c ≡ head_bytes b
  head_agrees = bytes_at_same b c 0 64 (λ p low high. same p (IsKept.head (omega arith)))

  slot_agrees : Agree b c (slot_place uber.group.0) 1024
  slot_agrees p low high = same p (IsKept.slot (low, high))

  table_same : Agree b c (table_place uber.group.0) uber.table_len
  table_same p low high = same p (IsKept.table (low, high))

  table_back : Agree c b (table_place uber.group.0) uber.table_len
  table_back p low high = sym (table_same p low high)

  rows_back : (head : Head) (table : Table) → HasRows c uber head table → HasRows b uber head table
  rows_back head table has = record {
    has_head = subst (λ (bytes : List ℕ). IsWholeHead bytes head) head_agrees has.has_head;
    has_table = table_agrees c b uber head table_back table has.has_table;
  }

  -- what the other image keeps of the group are the same places
  pub kept_back : (p : ℕ) → IsKept c uber p → IsKept b uber p
  kept_back p (IsKept.head lt) = IsKept.head lt
  kept_back p (IsKept.slot here) = IsKept.slot here
  kept_back p (IsKept.table here) = IsKept.table here
  kept_back p (IsKept.words head table id has in_ here) = IsKept.words head table id (rows_back head table has) in_ here

  pub same_back : SameKept c b uber
  same_back p kept = sym (same p (kept_back p kept))

  pub valid_kept : IsValid b uber → IsValid c uber
  valid_kept valid = valid_agrees b c uber slot_agrees valid

  pub rows_kept : (head : Head) (table : Table) → HasRows b uber head table → HasRows c uber head table
  rows_kept head table has = record {
    has_head = subst (λ (bytes : List ℕ). IsWholeHead bytes head) (sym head_agrees) has.has_head;
    has_table = table_agrees b c uber head table_same table has.has_table;
  }

  module _ (head : Head) (table : Table) (has : HasRows b uber head table) where
    pub words_kept : (id : MsId) → IsIn table.vdevs id → words_in c table id ≡ words_in b table id
    words_kept id in_ =
        words_at_same b c (words_place table id) (row_of table id).words
        (λ p low high. same p (IsKept.words head table id has in_ (low, high)))

    pub sound_kept : (id : MsId) → IsIn table.vdevs id → IsSound b table id → IsSound c table id
    sound_kept id in_ sound = subst (λ (words : List ℕ). HoldUnits words (units_of table id) (row_of table id).held) (sym (words_kept id in_)) sound

  pub group_kept : (head : Head) (table : Table) → HasGroup b uber head table → HasGroup c uber head table
  group_kept head table has = record {
    valid = valid_kept has.valid;
    rows = rows_kept head table has.rows;
    sound = λ id in_. sound_kept head table has.rows id in_ (has.sound id in_);
  }

  no_head_kept : (fault : HeadFault) → IsNoHead (head_bytes b) fault → IsNoHead (head_bytes c) fault
  no_head_kept fault shows = subst (λ (bytes : List ℕ). IsNoHead bytes fault) (sym head_agrees) shows

  no_table_kept : (fault : TableFault) → HasNoTable b uber fault → HasNoTable c uber fault
  no_table_kept fault none = record {
    head = none.head;
    has_head = subst (λ (bytes : List ℕ). IsWholeHead bytes none.head) (sym head_agrees) none.has_head;
    shows = fault_agrees b c uber none.head table_same fault none.shows;
  }

  damage_kept : (id : MsId) (damage : Damage) → HasDamage b uber id damage → HasDamage c uber id damage
  damage_kept id damage has =
      let table = has.table in
      let first = has.first in
      record {
        head = has.head;
        table = table;
        rows = rows_kept has.head table has.rows;
        first = record {
          in_table = first.in_table;
          shows = subst (λ (words : List ℕ). ShowsDamage words (units_of table id) (row_of table id).held damage) (sym (words_kept has.head table has.rows id first.in_table)) first.shows;
          before = λ other in_ lt. sound_kept has.head table has.rows other in_ (first.before other in_ lt);
        };
      }

  -- the group's cause
  pub cause_kept : (cause : OpenCause) → ShowsOf b uber cause → ShowsOf c uber cause
  cause_kept NoSlot shows = shows
  cause_kept (NotRetained asked newest) shows = shows
  cause_kept (Spent group) shows = shows
  cause_kept (HeadDamaged kept found) shows = (shows.0, no_head_kept (DamagedHead kept found) shows.1)
  cause_kept (TableDamaged group kept found) shows = (shows.0, no_table_kept _ shows.1)
  cause_kept (Malformed part at) shows = (shows.0, elim shows.1 [ inl head ↦ inl (no_head_kept (MalformedHead part at) head) | inr table ↦ inr (no_table_kept _ table) ])
  cause_kept (MapDamaged id damage) shows = (shows.0, damage_kept id damage shows.1)

-- what a group finds
pub finds_kept : (b c : List ℕ) (group : ℕ) (contents : Contents) (found : Finds b group contents) → SameKept b c found.uber → Finds c group contents
finds_kept b c group contents found same = record {
  uber = found.uber;
  head = found.head;
  table = found.table;
  named = found.named;
  has = group_kept b c found.uber same found.head found.table found.has;
  layout = found.layout;
  found = λ id u in_ lt.
      subst (λ (words : List ℕ). Replays (Side (units_of found.table id)) words u (contents.held id u)) (sym (words_kept b c found.uber same found.head found.table found.has.rows id in_)) (found.found id u in_ lt);
}

-- a tear that spares what a group keeps, all of which lies before the image's end
pub same_torn : (spared : ℕ → Type 0) (b c : List ℕ) (uber : Uber) → LiesIn b uber → ((p : ℕ) → IsKept b uber p → spared p) → Torn spared b c → SameKept b c uber
same_torn spared b c uber lies less torn p kept = torn.same p (lies p kept) (less p kept)

pub lies_torn : (spared : ℕ → Type 0) (b c : List ℕ) (uber : Uber) → LiesIn b uber → SameKept b c uber → Torn spared b c → LiesIn c uber
lies_torn spared b c uber lies same torn p kept = omega (arith, lies p (kept_back b c uber same p kept), torn.no_shorter)
