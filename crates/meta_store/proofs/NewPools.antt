-- The images of a pool that is being made: as long as its first slot is not valid none is, and then it holds nothing.
use Rattle.std.proofs.Common.{◌≡◌, inl, inr, ℕ, ◌+◌, ◌*◌, ◌%◌, ◌<◌, ◌≤◌, List, [], length, refl, sym, ◌∙◌, ap, subst, arith}
use Rattle.std.proofs.lemmas.Bool.{cases_lt}
use Rattle.zms_dev.specs.Bytes.{byte, Holds, Outside, Same, Torn}
use Rattle.zms_dev.specs.Disk.{DiskState, bytes_of, Only}
use Rattle.zms_dev.specs.Runs.{LeavesOnly, Before, Spares}
use Rattle.zms_dev.proofs.Moments.{joined, weaker}
use Rattle.zms_dev.proofs.Sparing.{spares_less, spares_then}
use Rattle.zms_units.specs.Runs.{units_in}
use Rattle.zms_units.proofs.Counting.{units_none}
use Rattle.zms_units.specs.declared.places.MsId.{MsId}
use Rattle.zms_units.specs.declared.places.VdevRow.{VdevRow}
use Rattle.zms_units.specs.declared.segments.Group.{Group}
use Rattle.vdev_map.specs.Numbers.{IsIn}
use Rattle.vdev_map.specs.Places.{slot_place, table_place}
use Rattle.vdev_map.specs.declared.layout.Head.{Head}
use Rattle.vdev_map.specs.declared.layout.Layout.{Layout}
use Rattle.vdev_map.specs.declared.table.Table.{Table}
use Rattle.uber_ring.specs.Encoding.{len_of, Names}
use Rattle.uber_ring.specs.TableFields.{HasTable}
use Rattle.uber_ring.specs.Slots.{IsUber, IsValid, IsNewest, HasNone}
use Rattle.uber_ring.specs.Writes.{Within, HasFlushed, IsOldOrNew, IsWritten}
use Rattle.uber_ring.specs.declared.slot.Uber.{Uber}
use Rattle.uber_ring.proofs.Depends.{valid_agrees, table_agrees}
use Rattle.uber_ring.proofs.NewestSoFar.{one_in_slot}
use Rattle.uber_ring.proofs.Pieces.{byte-bytes_at, bytes_at_from, bytes_at_same}
use Rattle.space_map.specs.Reading.{Decodes}
use Rattle.space_map.specs.Replay.{is_held}
use Rattle.space_map.specs.declared.places.MapKind.{MapKind}
use Rattle.space_map.specs.declared.places.MapKind.TheVariants.{Side}
use Rattle.meta_store.specs.Creates.{IsNewPool, IsNoneOrNew, IsFirstTable, IsMade, IsLeftByCreate}
use Rattle.meta_store.specs.FirstGroups.{IsWiped, IsLaidFirst, IsOffFirst}
use Rattle.meta_store.specs.Groups.{HasRows, HasGroup, IsSound}
use Rattle.meta_store.specs.Heads.{head_bytes, head_of, IsWholeHead}
use Rattle.meta_store.specs.Kept.{IsKept, LiesIn}
use Rattle.meta_store.specs.Stores.{RestsAt}
use Rattle.meta_store.specs.Words.{row_of, units_of, words_place, words_at, words_in, HoldUnits}
use Rattle.meta_store.proofs.Committed.{both_leave}
use Rattle.meta_store.proofs.FoundOnce.{one_table}
use Rattle.meta_store.proofs.ValidOrNot.{same_or_not, valid_or_not}

-- a ring of zeros
abbrev pub HasNoRing : List ℕ → Type 0
HasNoRing image = (p : ℕ) → 4096 ≤ p → p < 135168 → byte image p ≡ 0

pub ring_none : (image : List ℕ) → HasNoRing image → HasNone image
ring_none image zeros uber valid =
    let gate : byte image (slot_place uber.group.0 + 1023) ≡ 0 = zeros (slot_place uber.group.0 + 1023) (omega arith) (omega arith) in
    absurd (omega (arith, gate, byte-bytes_at image (slot_place uber.group.0) 1024 1023 (omega arith), valid.gate))

no_words_at : (image : List ℕ) (at : ℕ) → words_at image at 0 ≡ []
unfolding words_at
no_words_at image at = refl

-- no words hold nothing
no_words : (kind : MapKind) → Decodes kind [] []
no_words kind = record { entries = []; held = refl; sound = tt; given = refl }

none_held : (units : ℕ) → units_in (is_held []) units ≡ 0
none_held units = units_none (is_held []) units (λ u. refl)

-- an image with the first slot
module _ (layout : Layout) (table : Table) (first : IsFirstTable layout table) (image : List ℕ) (uber : Uber) (named : uber.group.0 ≡ 4) (laid : IsLaidFirst image (head_of layout) table uber)
    (valid : IsValid image uber) (only : (found : Uber) → IsValid image found → found ≡ uber) where
  abbrev rows : HasRows image uber (head_of layout) table
  rows = laid.rows

  in_layout : (id : MsId) → IsIn table.vdevs id → IsIn layout.vdevs id
  in_layout id in_ = subst (λ (v : List VdevRow). IsIn v id) first.vdevs in_

  words_none : (id : MsId) → IsIn table.vdevs id → words_in image table id ≡ []
  words_none id in_ = ap (λ (n : ℕ). words_at image (words_place table id) n) (first.words id (in_layout id in_)) ∙ no_words_at image (words_place table id)

  sound : (id : MsId) → IsIn table.vdevs id → IsSound image table id
  sound id in_ =
      subst (λ (words : List ℕ). HoldUnits words (units_of table id) (row_of table id).held) (sym (words_none id in_))
      (record { found = []; decodes = no_words (Side (units_of table id)); held = none_held (units_of table id) ∙ sym (first.held id (in_layout id in_)) })

  has : HasGroup image uber (head_of layout) table
  has = record { valid = valid; rows = rows; sound = sound }

  newest : IsNewest image uber
  newest = record { valid = valid; greatest = λ other is. omega (arith, ap (λ (u : Uber). u.group.0) (only other is)) }

  pub new_pool : IsNewPool layout image
  new_pool = record {
    newest = record { uber = uber; newest = newest; named = named };
    only = λ found is. ap (λ (u : Uber). u.group.0) (only found is) ∙ named;
    finds = record {
      uber = uber;
      head = head_of layout;
      table = table;
      named = named;
      has = has;
      layout = λ i. record { flush = layout.flush; log = layout.log; vdevs = sym first.vdevs i };
      found = λ id u in_ lt. record { found = []; decodes = subst (λ (words : List ℕ). Decodes (Side (units_of table id)) words []) (sym (words_none id in_)) (no_words (Side (units_of table id))); says = refl };
    };
  }

  same_rows : (head : Head) (other : Table) → HasRows image uber head other → other ≡ table
  same_rows head other there = one_table image uber head (head_of layout) other table there rows

  no_words_within : (other : Table) (id : MsId) (p : ℕ) → other ≡ table → IsIn other.vdevs id → Within (words_place other id) (8 * (row_of other id).words) p → p < length image
  no_words_within other id p same in_ here =
      let none : (row_of other id).words ≡ 0 =
      ap (λ (t : Table). (row_of t id).words) same ∙ first.words id (in_layout id (subst (λ (t : Table). IsIn t.vdevs id) same in_)) in
      absurd (omega (arith, none, here.0, here.1))

  kept_lies : LiesIn image uber
  kept_lies p (IsKept.head lt) = omega (arith, laid.lies)
  kept_lies p (IsKept.slot here) = omega (arith, here.1, laid.lies)
  kept_lies p (IsKept.table here) = let place : table_place uber.group.0 ≡ table_place 4 = ap table_place named in omega (arith, place, here.1, laid.lies)
  kept_lies p (IsKept.words head other id there in_ here) = no_words_within other id p (same_rows head other there) in_ here

  pub new_rests : RestsAt layout table image
  new_rests = record {
    uber = uber;
    newest = newest;
    has = has;
    lies = λ other is recent. subst (LiesIn image) (sym (only other is)) kept_lies;
    alike = λ other head rows_there is recent there.
        ap (λ (t : Table). t.vdevs) (same_rows head rows_there (subst (λ (u : Uber). HasRows image u head rows_there) (only other is) there)) ∙ first.vdevs;
  }

-- laying the first group down leaves the ring
module _ (wiped laid : List ℕ) (zeros : (p : ℕ) → p < 135168 → byte wiped p ≡ 0) (long : 135168 ≤ length wiped) (torn : Torn IsOffFirst wiped laid) where
  pub no_ring : HasNoRing laid
  no_ring p low high = torn.same p (omega arith) ((λ le. omega arith), (λ le. absurd (omega arith))) ∙ zeros p high

-- the first slot is being written
module _ (layout : Layout) (table : Table) (first : IsFirstTable layout table) (mid c : List ℕ) (uber : Uber) (limits : IsUber uber) (named : uber.group.0 ≡ 4) (laid : IsLaidFirst mid (head_of layout) table uber)
    (ring : HasNoRing mid) (torn : Torn (Outside (slot_place uber.group.0) 1024) mid c) where
  behind : (p : ℕ) → p < table_place 4 + uber.table_len → Outside (slot_place uber.group.0) 1024 p → byte c p ≡ byte mid p
  behind p lt out = torn.same p (omega (arith, laid.lies)) out

  rows_stay : HasRows c uber (head_of layout) table
  rows_stay = record {
    has_head =
        subst (λ (bytes : List ℕ). IsWholeHead bytes (head_of layout)) (sym (bytes_at_same mid c 0 64 (λ p low high. behind p (omega arith) (λ le. absurd (omega arith))))) laid.rows.has_head;
    has_table =
        table_agrees mid c uber (head_of layout)
        (λ p low high. let place : table_place uber.group.0 ≡ table_place 4 = ap table_place named in behind p (omega (arith, place)) (λ le. omega (arith, place))) table laid.rows.has_table;
  }

  laid_stays : IsLaidFirst c (head_of layout) table uber
  laid_stays = record { rows = rows_stay; lies = omega (arith, laid.lies, torn.no_shorter) }

  -- another slot is as it was
  others_none : (found : Uber) → (found.group.0 % 128 ≡ uber.group.0 % 128 → ⊥) → IsValid c found → ⊥
  others_none found differ valid =
      ring_none mid ring found
      (valid_agrees c mid found (λ p low high. sym (behind p (omega arith) (off p low high))) valid)
    where
      off : (p : ℕ) → slot_place found.group.0 ≤ p → p < slot_place found.group.0 + 1024 → Outside (slot_place uber.group.0) 1024 p
      off p low high le = elim (cases_lt (found.group.0 % 128) (uber.group.0 % 128)) [
        | inl below ↦ absurd (omega arith)
        | inr not_below ↦ elim (cases_lt (uber.group.0 % 128) (found.group.0 % 128)) [ inl above ↦ omega arith | inr same ↦ absurd (differ (omega arith)) ]
      ]

  one_valid : IsValid c uber → (found : Uber) → IsValid c found → found ≡ uber
  one_valid valid found is = elim (same_or_not (found.group.0 % 128) (uber.group.0 % 128)) [
    | inl same ↦ one_in_slot c found uber same is valid
    | inr differ ↦ absurd (others_none found differ is)
  ]

  pub filled_pool : IsValid c uber → IsNewPool layout c
  filled_pool valid = new_pool layout table first c uber named laid_stays valid (one_valid valid)

  pub filled_rests : IsValid c uber → RestsAt layout table c
  filled_rests valid = new_rests layout table first c uber named laid_stays valid (one_valid valid)

  pub none_or_new : IsOldOrNew mid uber c → IsNoneOrNew layout c
  none_or_new either = elim (valid_or_not _ uber limits) [
    | inl valid ↦ inr (filled_pool valid)
    | inr none ↦ inl (λ found is. elim (same_or_not (found.group.0 % 128) (uber.group.0 % 128)) [
      | inl same ↦ elim (either found same is) [ inl e ↦ none (subst (λ (u : Uber). IsValid c u) e is) | inr was ↦ ring_none mid ring found was ]
      | inr differ ↦ others_none found differ is
    ])
  ]

-- a head that was written is there
pub head_written : (a bytes b : List ℕ) → Holds a 0 bytes b → length bytes ≡ 64 → bytes ≡ head_bytes b
head_written a bytes b holds len = bytes_at_from b 0 64 bytes len (λ k lt. sym (holds.inside k (omega arith)))

-- the table of the first group was written, and then the head
module _ (layout : Layout) (table : Table) (first : IsFirstTable layout table) where
  place_is : table_place table.group.0 ≡ table_place 4
  place_is = ap table_place first.group

  module _ (uber : Uber) (names : Names uber table) (mid new : List ℕ) (lies : table_place table.group.0 + len_of table ≤ length mid) (torn : Torn (Outside 0 64) mid new) where
    pub laid_first : HasTable mid (head_of layout) uber table → IsWholeHead (head_bytes new) (head_of layout) → IsLaidFirst new (head_of layout) table uber
    laid_first has head =
        let group : uber.group.0 ≡ table.group.0 = ap (λ (g : Group). g.0) names.group in
        let place : table_place uber.group.0 ≡ table_place table.group.0 = ap table_place group in
        record {
          rows = record {
            has_head = head;
            has_table = table_agrees mid new uber (head_of layout) (λ p low high. torn.same p (omega (arith, place, names.table_len, lies)) (λ le. omega (arith, place, place_is))) table has;
          };
          lies = omega (arith, place_is, names.table_len, lies, torn.no_shorter);
        }

-- laying it down, and then writing its slot, leave all but the head, the ring and its table
off_front : (p : ℕ) → IsLeftByCreate p → IsOffFirst p
off_front p left = ((λ le. let out : 0 + 135168 ≤ p = left.0 le in omega arith), left.1)

pub laying_left : (old mid : DiskState) → Spares IsOffFirst old mid → Spares IsLeftByCreate old mid
laying_left old mid run = spares_less IsOffFirst old mid IsLeftByCreate off_front run

pub filling_left : (old mid new : DiskState) (group : ℕ) → Spares IsOffFirst old mid → Spares (Outside (slot_place group) 1024) mid new → Spares IsLeftByCreate old new
filling_left old mid new group first second =
    spares_then IsLeftByCreate old mid new (laying_left old mid first)
    (spares_less (Outside (slot_place group) 1024) mid new IsLeftByCreate (λ p left le. let out : 0 + 135168 ≤ p = left.0 (omega arith) in omega arith) second)

-- the moments of making the first group openable on a wiped device
module _ (layout : Layout) (table : Table) (first : IsFirstTable layout table) (old mid : DiskState) (wiped : IsWiped old) (laying : Spares IsOffFirst old mid) where
  laid_torn : (c : List ℕ) → Before old IsOffFirst c → Torn IsOffFirst (bytes_of old) c
  laid_torn c from = subst (λ (d : List ℕ). Torn IsOffFirst d c) (wiped.flushed from.0 from.1) from.2

  pub moments_laying : LeavesOnly old mid (IsNoneOrNew layout)
  moments_laying =
      weaker old mid (Before old IsOffFirst) (IsNoneOrNew layout)
      (λ c from. inl (ring_none c (no_ring (bytes_of old) c wiped.zeros wiped.long (laid_torn c from)))) laying.any_moment

  pub ring_there : HasNoRing (bytes_of mid)
  ring_there = no_ring (bytes_of old) (bytes_of mid) wiped.zeros wiped.long laying.contents

  module _ (new : DiskState) (uber : Uber) (limits : IsUber uber) (named : uber.group.0 ≡ 4) (laid : IsLaidFirst (bytes_of mid) (head_of layout) table uber) (flushed : Only (bytes_of mid) mid.may_leave)
      (opened : Spares (Outside (slot_place uber.group.0) 1024) mid new) where
    pub slot_flushed : HasFlushed mid (slot_place uber.group.0) 1024
    slot_flushed c now =
        subst (λ (d : List ℕ). Same (Within (slot_place uber.group.0) 1024) (bytes_of mid) d) (sym (flushed c now))
        (record { lies = λ p here. omega (arith, here.1, laid.lies); same = λ p here. refl })

    slot_torn : (c : List ℕ) → Before mid (Outside (slot_place uber.group.0) 1024) c → Torn (Outside (slot_place uber.group.0) 1024) (bytes_of mid) c
    slot_torn c from = subst (λ (d : List ℕ). Torn (Outside (slot_place uber.group.0) 1024) d c) (flushed from.0 from.1) from.2

    pub moments_filling : LeavesOnly mid new (IsOldOrNew (bytes_of mid) uber) → LeavesOnly old new (IsNoneOrNew layout)
    moments_filling slot =
        joined old mid new (IsNoneOrNew layout) moments_laying
        (weaker mid new _ (IsNoneOrNew layout)
        (λ c both. none_or_new layout table first (bytes_of mid) c uber limits named laid ring_there (slot_torn c both.1) both.0)
        (both_leave mid new (IsOldOrNew (bytes_of mid) uber) (Before mid (Outside (slot_place uber.group.0) 1024)) slot opened.any_moment))

    module _ (written : IsWritten (bytes_of new) uber) (durable : Only (bytes_of new) new.may_leave) where
      pub is_made : IsMade new layout
      is_made = record {
        pool = λ c now. subst (IsNewPool layout) (sym (durable c now)) (filled_pool layout table first (bytes_of mid) (bytes_of new) uber limits named laid ring_there opened.contents written.valid);
        table = table;
        first = first;
        at_rest = record {
          tells = opened.tells;
          each = λ c now. subst (RestsAt layout table) (sym (durable c now)) (filled_rests layout table first (bytes_of mid) (bytes_of new) uber limits named laid ring_there opened.contents written.valid);
        };
      }
