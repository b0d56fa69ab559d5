-- Laying down the next group, and making it openable, leave all that the groups keep that stay openable.
use Rattle.std.proofs.Common.{◌≡◌, inl, inr, ℕ, ◌+◌, ◌*◌, ◌%◌, ◌<◌, ◌≤◌, List, length, refl, sym, ◌∙◌, ap, subst, arith}
use Rattle.zms_dev.specs.Bytes.{Outside, Torn}
use Rattle.zms_units.specs.declared.places.MsId.{MsId}
use Rattle.zms_units.specs.declared.places.VdevRow.{VdevRow}
use Rattle.zms_units.specs.declared.segments.Group.{Group}
use Rattle.vdev_map.specs.Numbers.{IsIn, row_at}
use Rattle.vdev_map.specs.Places.{slot_place, table_place, place_of, len_of, IsPiece, AreSame, AreApart}
use Rattle.vdev_map.specs.Tables.{IsTable}
use Rattle.vdev_map.specs.declared.layout.Form.TheVariants.{Whole}
use Rattle.vdev_map.specs.declared.layout.Head.{Head}
use Rattle.vdev_map.specs.declared.layout.Layout.{Layout}
use Rattle.vdev_map.specs.declared.places.Piece.{Piece}
use Rattle.vdev_map.specs.declared.places.Piece.TheVariants.{Front, Slot, Table as TableSlot, WholeSlot}
use Rattle.vdev_map.specs.declared.table.Table.{Table}
use Rattle.vdev_map.proofs.Apart.{is_apart}
use Rattle.uber_ring.specs.Slots.{IsValid, IsNewest}
use Rattle.uber_ring.specs.TableFields.{HasTable, table_bytes}
use Rattle.uber_ring.specs.Writes.{Within}
use Rattle.uber_ring.specs.declared.slot.Uber.{Uber}
use Rattle.uber_ring.proofs.Depends.{valid_agrees}
use Rattle.uber_ring.proofs.Pieces.{length-bytes_at}
use Rattle.uber_ring.proofs.RightTables.{front_right, table_right}
use Rattle.meta_store.specs.Commits.{KeepsGroups, IsBefore}
use Rattle.meta_store.specs.Heads.{head_bytes, head_of, IsWholeHead}
use Rattle.meta_store.specs.Kept.{IsKept, LiesIn}
use Rattle.meta_store.specs.NextGroups.{IsSpared, OffWords}
use Rattle.meta_store.specs.Stores.{RestsAt}
use Rattle.meta_store.specs.Words.{row_of, units_of, words_place, words_in}
use Rattle.meta_store.proofs.FoundOnce.{one_head}
use Rattle.meta_store.proofs.Keeping.{SameKept, kept_back, rows_kept, valid_kept, group_kept, finds_kept, words_kept, same_back, same_torn}
use Rattle.meta_store.proofs.RowPlaces.{place_is, words_few}

-- a place of a piece that is apart lies outside
apart_outside : (at n other len m p : ℕ) → AreApart at n other len → m ≤ len → Within other m p → Outside at n p
apart_outside at n other len m p (inl below) few here le = omega (arith, here.0)
apart_outside at n other len m p (inr above) few here le = absurd (omega (arith, here.1))

-- the table of a valid slot is of its group, and has some bytes
module _ (image : List ℕ) (uber : Uber) (head : Head) (table : Table) (has : HasTable image head uber table) where
  pub table_group : table.group.0 ≡ uber.group.0
  table_group = ap (λ (t : Table). t.group.0) has.is ∙ (front_right head uber (table_bytes image uber) has.right).1.0

  pub table_some : 64 ≤ uber.table_len
  table_some = omega (arith, (front_right head uber (table_bytes image uber) has.right).0.0, length-bytes_at image (table_place uber.group.0) uber.table_len)

  pub table_fits : IsValid image uber → IsTable head table
  table_fits valid = subst (λ (t : Table). IsTable head t) (sym has.is) (table_right head uber (table_bytes image uber) has.right valid.limits.group)

-- what lies on the device of a group that shares no slot with another
module _ (head : Head) (vdevs : List VdevRow) (whole : head.form ≡ Whole) (t : Group) where
  slot_off : (piece : Piece) (m p : ℕ) → IsPiece head vdevs piece → (AreSame head (Slot t) piece → ⊥) → m ≤ len_of head vdevs piece → Within (place_of head vdevs piece) m p → Outside (slot_place t.0) 1024 p
  slot_off piece m p in_ differ few here =
      apart_outside (slot_place t.0) 1024 (place_of head vdevs piece) (len_of head vdevs piece) m p (is_apart head vdevs (Slot t) (slot_place t.0) 1024 tt refl refl piece in_ differ) few here

  spared : (piece : Piece) (m p : ℕ) → IsPiece head vdevs piece → (AreSame head (TableSlot t) piece → ⊥) → ((id : MsId) → AreSame head (WholeSlot id t) piece → ⊥) → m ≤ len_of head vdevs piece
      → Within (place_of head vdevs piece) m p → IsSpared head vdevs t p
  spared piece m p in_ table_differs words_differ few here = record {
    table = apart_outside (table_place t.0) 262144 (place_of head vdevs piece) (len_of head vdevs piece) m p (is_apart head vdevs (TableSlot t) (table_place t.0) 262144 tt refl refl piece in_ table_differs) few here;
    words = λ id id_in.
        apart_outside (place_of head vdevs (WholeSlot id t)) (len_of head vdevs (WholeSlot id t)) (place_of head vdevs piece) (len_of head vdevs piece) m p
        (is_apart head vdevs (WholeSlot id t) (place_of head vdevs (WholeSlot id t)) (len_of head vdevs (WholeSlot id t)) (whole, id_in) refl refl piece in_ (words_differ id)) few here;
  }

  -- all of the ring
  pub ring_spared : (group : Group) (p : ℕ) → Within (slot_place group.0) 1024 p → IsSpared head vdevs t p
  ring_spared group p here = spared (Slot group) 1024 p tt (λ same. same) (λ id same. same) (omega arith) here

  -- of a slot of another group
  pub other_slot : (group : Group) (p : ℕ) → (t.0 % 128 ≡ group.0 % 128 → ⊥) → Within (slot_place group.0) 1024 p → Outside (slot_place t.0) 1024 p
  other_slot group p differ here = slot_off (Slot group) 1024 p tt differ (omega arith) here

  -- a piece of a recent group
  pub record Leaves (p : ℕ) : Type 0 where
    pub laid : IsSpared head vdevs t p
    pub opened : Outside (slot_place t.0) 1024 p

  pub leaves_head : (p : ℕ) → p < 64 → Leaves p
  leaves_head p lt = record {
    laid = spared Front 64 p tt (λ same. same) (λ id same. same) (omega arith) (omega arith, omega arith);
    opened = slot_off Front 64 p tt (λ same. same) (omega arith) (omega arith, omega arith);
  }

  module _ (group : Group) (earlier : group.0 < t.0) (recent : t.0 ≤ group.0 + 3) where
    off_8 : t.0 % 8 ≡ group.0 % 8 → ⊥
    off_8 same = omega arith

    off_128 : t.0 % 128 ≡ group.0 % 128 → ⊥
    off_128 same = omega arith

    pub leaves_slot : (p : ℕ) → Within (slot_place group.0) 1024 p → Leaves p
    leaves_slot p here = record { laid = ring_spared group p here; opened = other_slot group p off_128 here }

    pub leaves_table : (m p : ℕ) → m ≤ 262144 → Within (table_place group.0) m p → Leaves p
    leaves_table m p few here = record {
      laid = spared (TableSlot group) m p tt off_8 (λ id same. same) few here;
      opened = slot_off (TableSlot group) m p tt (λ same. same) few here;
    }

    pub leaves_words : (id : MsId) (m p : ℕ) → IsIn vdevs id → m ≤ len_of head vdevs (WholeSlot id group) → Within (place_of head vdevs (WholeSlot id group)) m p → Leaves p
    leaves_words id m p in_ few here = record {
      laid = spared (WholeSlot id group) m p (whole, in_) (λ same. same) (λ other same. off_8 same.1) few here;
      opened = slot_off (WholeSlot id group) m p (whole, in_) (λ same. same) few here;
    }

-- an image from which the store may go on, and the next group
module _ (layout : Layout) (table : Table) (image : List ℕ) (rests : RestsAt layout table image) (t : Group) (next : t.0 ≡ rests.uber.group.0 + 1) where
  abbrev head : Head
  head = head_of layout

  abbrev Left : ℕ → Type 0
  Left p = Leaves head layout.vdevs refl t p

  abbrev is_head : IsWholeHead (head_bytes image) head
  is_head = rests.has.rows.has_head

  -- its table
  module _ (other : Uber) (valid : IsValid image other) (recent : rests.uber.group.0 ≤ other.group.0 + 2) where
    not_later : other.group.0 ≤ rests.uber.group.0
    not_later = rests.newest.greatest other valid

    words_left : (h : Head) (rows : Table) (id : MsId) (p : ℕ) → h ≡ head → rows.vdevs ≡ layout.vdevs → HasTable image h other rows → IsIn rows.vdevs id → Within (words_place rows id) (8 * (row_of rows id).words) p → Left p
    words_left h rows id p same_head same_vdevs has in_ here =
        let fits : IsTable h rows = table_fits image other h rows has valid in
        let is_whole : h.form ≡ Whole = ap (λ (x : Head). x.form) same_head in
        let group : rows.group.0 ≡ other.group.0 = table_group image other h rows has in
        let few : (row_of rows id).words ≤ units_of rows id + 64 = words_few h rows fits id in_ is_whole in
        let place : words_place rows id ≡ place_of h rows.vdevs (WholeSlot id rows.group) = place_is h rows fits id in_ in
        let there : Within (place_of h rows.vdevs (WholeSlot id rows.group)) (8 * (row_of rows id).words) p = subst (λ (at : ℕ). Within at (8 * (row_of rows id).words) p) place here in
        let moved : Within (place_of head layout.vdevs (WholeSlot id rows.group)) (8 * (row_of rows id).words) p =
        subst (λ (v : List VdevRow). Within (place_of head v (WholeSlot id rows.group)) (8 * (row_of rows id).words) p) same_vdevs
        (subst (λ (x : Head). Within (place_of x rows.vdevs (WholeSlot id rows.group)) (8 * (row_of rows id).words) p) same_head there) in
        let units : units_of rows id ≡ (row_at layout.vdevs id.vdev).units = ap (λ (v : List VdevRow). (row_at v id.vdev).units) same_vdevs in
        leaves_words head layout.vdevs refl t rows.group (omega (arith, not_later)) (omega arith) id (8 * (row_of rows id).words) p (subst (λ (v : List VdevRow). IsIn v id) same_vdevs in_) (omega arith) moved

    pub kept_left : (p : ℕ) → IsKept image other p → Left p
    kept_left p (IsKept.head lt) = leaves_head head layout.vdevs refl t p lt
    kept_left p (IsKept.slot here) = leaves_slot head layout.vdevs refl t other.group (omega (arith, not_later)) (omega arith) p here
    kept_left p (IsKept.table here) = leaves_table head layout.vdevs refl t other.group (omega (arith, not_later)) (omega arith) other.table_len p valid.limits.table_len here
    kept_left p (IsKept.words h rows id has in_ here) = words_left h rows id p (one_head (head_bytes image) h head has.has_head is_head) (rests.alike other h rows valid recent has) has.has_table in_ here

    pub lies_here : LiesIn image other
    lies_here = rests.lies other valid recent

  -- the ring lies before the end
  pub ring_lies : (p : ℕ) → p < 135168 → p < length image
  ring_lies p lt =
      let some : 64 ≤ rests.uber.table_len = table_some image rests.uber head table rests.has.rows.has_table in
      let first : table_place rests.uber.group.0 < length image = lies_here rests.uber rests.newest.valid (omega arith) (table_place rests.uber.group.0) (IsKept.table (omega arith, omega arith)) in
      omega arith

  pub slot_ends : (group : Group) (p : ℕ) → p < slot_place group.0 + 1024 → p < 135168
  slot_ends group p lt = omega arith

  -- an image that a tear leaves which spares what the recent groups keep
  module _ (safe : ℕ → Type 0) (wide : (p : ℕ) → Left p → safe p) (c : List ℕ) (torn : Torn safe image c) where
    pub same_recent : (other : Uber) → IsValid image other → rests.uber.group.0 ≤ other.group.0 + 2 → SameKept image c other
    same_recent other valid recent = same_torn safe image c other (lies_here other valid recent) (λ p kept. wide p (kept_left other valid recent p kept)) torn

    pub keeps_groups : (newest : ℕ) → rests.uber.group.0 ≤ newest → KeepsGroups newest image c
    keeps_groups newest least group contents recent found =
        finds_kept image c group contents found (same_recent found.uber found.has.valid (omega (arith, found.named)))

    pub slot_back : (other : Uber) → (t.0 % 128 ≡ other.group.0 % 128 → ⊥) → IsValid c other → IsValid image other
    slot_back other differ valid =
        valid_agrees c image other
        (λ p low high. sym (torn.same p (ring_lies p (slot_ends other.group p high)) (wide p (record {
          laid = ring_spared head layout.vdevs refl t other.group p (low, high);
          opened = other_slot head layout.vdevs refl t other.group p differ (low, high);
        })))) valid

    -- where no slot has become valid, the store may go on
    module _ (no_more : (other : Uber) → IsValid c other → IsValid image other) where
      pub newest_still : IsNewest c rests.uber
      newest_still = record {
        valid = valid_kept image c rests.uber (same_recent rests.uber rests.newest.valid (omega arith)) rests.newest.valid;
        greatest = λ other valid. rests.newest.greatest other (no_more other valid);
      }

      pub before : IsBefore rests.uber.group.0 image c
      before = record { newest = record { uber = rests.uber; newest = newest_still; named = refl }; only = no_more; keeps = keeps_groups rests.uber.group.0 (omega arith) }

      pub rests_still : RestsAt layout table c
      rests_still = record {
        uber = rests.uber;
        newest = newest_still;
        has = group_kept image c rests.uber (same_recent rests.uber rests.newest.valid (omega arith)) head table rests.has;
        lies = λ other valid recent.
            let was = no_more other valid in
            let same = same_recent other was recent in
            λ p kept. omega (arith, lies_here other was recent p (kept_back image c other same p kept), torn.no_shorter);
        alike = λ other h rows valid recent has.
            let was = no_more other valid in
            let same = same_recent other was recent in
            rests.alike other h rows was recent (rows_kept c image other (same_back image c other same) h rows has);
      }

  -- laying the group down leaves all of the ring
  pub laid_back : (c : List ℕ) → Torn (IsSpared head layout.vdevs t) image c → (other : Uber) → IsValid c other → IsValid image other
  laid_back c torn other valid =
      valid_agrees c image other
      (λ p low high. sym (torn.same p (ring_lies p (slot_ends other.group p high)) (ring_spared head layout.vdevs refl t other.group p (low, high)))) valid

  -- writing its words leaves those of the store's group
  pub words_stay : (c : List ℕ) → Torn (OffWords head layout.vdevs t) image c → (id : MsId) → IsIn table.vdevs id → words_in c table id ≡ words_in image table id
  words_stay c torn id in_ =
      words_kept image c rests.uber (same_recent (OffWords head layout.vdevs t) (λ p left. left.laid.words) c torn rests.uber rests.newest.valid (omega arith)) head table rests.has.rows id in_
