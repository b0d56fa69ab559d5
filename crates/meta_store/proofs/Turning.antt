-- The gate of one slot is closed, while the opened group stays.
use Rattle.std.proofs.Common.{◌≡◌, ◌≢◌, inl, inr, ℕ, ◌+◌, ◌*◌, ◌%◌, ◌<◌, ◌≤◌, Option, Some, None, List, [], ◌∷◌, length, get_or, set, sym, ◌∙◌, ap, subst, arith}
use Rattle.std.proofs.lemmas.Bool.{cases_lt}
use Rattle.std.proofs.lemmas.List.{get_or-set_same, get_or-set_other}
use Rattle.zms_units.specs.declared.segments.Group.{Group}
use Rattle.zms_dev.specs.Bytes.{byte, Outside, Holds, Torn}
use Rattle.zms_dev.specs.Disk.{DiskState, Tells, bytes_of, Only}
use Rattle.zms_dev.specs.Runs.{Before}
use Rattle.zms_dev.proofs.Keeping.{kept_only}
use Rattle.zms_dev.proofs.Sparing.{torn_holds}
use Rattle.vdev_map.specs.Places.{slot_place}
use Rattle.uber_ring.specs.Numbers.{bytes_at}
use Rattle.uber_ring.specs.Slots.{IsValid, IsValidSlot}
use Rattle.uber_ring.specs.Writes.{Within, HasFlushed}
use Rattle.uber_ring.specs.declared.slot.Uber.{Uber}
use Rattle.uber_ring.proofs.Depends.{Agree, valid_agrees}
use Rattle.uber_ring.proofs.NewestSoFar.{one_in_slot}
use Rattle.uber_ring.proofs.Pieces.{byte-bytes_at}
use Rattle.uber_ring.proofs.Stages.{closing}
use Rattle.meta_store.specs.Kept.{IsKept}
use Rattle.meta_store.specs.Rewinds.{IsRewinding, SlotGroup, IsRing, IsTurned}
use Rattle.meta_store.proofs.KeptPlaces.{kept_where}

slot_group_moved : (a c : List ℕ) (slot : ℕ) (found : Option Group) → ((uber : Uber) → uber.group.0 % 128 ≡ slot → IsValid c uber → IsValid a uber)
    → ((uber : Uber) → uber.group.0 % 128 ≡ slot → IsValid a uber → IsValid c uber) → SlotGroup a slot found → SlotGroup c slot found
slot_group_moved a c slot None back forth none = λ uber here valid. none uber here (back uber here valid)
slot_group_moved a c slot (Some group) back forth (here, (uber, (is, valid))) =
    (here, (uber, (is, forth uber (ap (λ (g : Group). g.0 % 128) is ∙ here) valid)))

module _ (opened : Uber) (start : List ℕ) (old : DiskState) (groups : List (Option Group)) (group : Group) (long : 135168 ≤ length start) (turned : IsTurned opened start old groups)
    (other : group ≢ opened.group) (entry : get_or groups (group.0 % 128) None ≡ Some group) where
  abbrev a : List ℕ
  a = bytes_of old

  abbrev gate : ℕ
  gate = slot_place group.0 + 1023

  long_now : 135168 ≤ length a
  long_now = omega (arith, long, turned.no_shorter)

  here : SlotGroup a (group.0 % 128) (Some group)
  here = subst (λ (found : Option Group). SlotGroup a (group.0 % 128) found) entry (turned.ring (group.0 % 128) (omega arith))

  closed_valid : IsValidSlot (bytes_at a (slot_place group.0) 1024) (here.1.0)
  closed_valid = subst (λ (g : Group). IsValidSlot (bytes_at a (slot_place g.0) 1024) here.1.0) here.1.1.0 here.1.1.1

  gate_open : byte a gate ≡ 0xB1
  gate_open = sym (byte-bytes_at a (slot_place group.0) 1024 1023 (omega arith)) ∙ closed_valid.gate

  -- the opened group has another slot
  apart_slots : opened.group.0 % 128 ≢ group.0 % 128
  apart_slots same =
      let closed : Uber = here.1.0 in
      let is : closed.group ≡ group = here.1.1.0 in
      let one : opened ≡ closed = one_in_slot a opened closed (same ∙ sym (ap (λ (g : Group). g.0 % 128) is)) turned.run.valid here.1.1.1 in
      other (sym is ∙ sym (ap (λ (u : Uber). u.group) one))

  flushed_slot : HasFlushed old (slot_place group.0) 1024
  flushed_slot = kept_only (Within (slot_place group.0) 1024) a old (λ p at. omega (arith, at.1, long_now)) turned.flushed

  module _ (c : List ℕ) (from : Before old (Outside gate 1) c) where
    torn : Torn (Outside gate 1) a c
    torn = subst (λ (d : List ℕ). Torn (Outside gate 1) d c) (turned.flushed from.0 from.1) from.2

    same_but_gate : (p : ℕ) → p < length a → p ≢ gate → byte c p ≡ byte a p
    same_but_gate p lt no_gate = torn.same p lt (λ le. omega (arith, no_gate))

    other_slot : (uber : Uber) → uber.group.0 % 128 ≢ group.0 % 128 → Agree a c (slot_place uber.group.0) 1024
    other_slot uber differ p low high = same_but_gate p (omega (arith, long_now)) (λ e. differ (omega arith))

    other_back : (uber : Uber) → uber.group.0 % 128 ≢ group.0 % 128 → Agree c a (slot_place uber.group.0) 1024
    other_back uber differ p low high = sym (other_slot uber differ p low high)

    same_slot_back : (uber : Uber) → uber.group.0 % 128 ≡ group.0 % 128 → IsValid c uber → IsValid a uber
    same_slot_back uber same valid =
        let place : slot_place uber.group.0 ≡ slot_place group.0 = ap (λ (n : ℕ). 4096 + 1024 * n) same in
        subst (λ (p : ℕ). IsValidSlot (bytes_at a p 1024) uber) (sym place)
        (closing old (slot_place group.0) flushed_slot gate_open c from uber (subst (λ (p : ℕ). IsValidSlot (bytes_at c p 1024) uber) place valid))

    valid_back : (uber : Uber) → IsValid c uber → IsValid a uber
    valid_back uber valid = elim (cases_lt (uber.group.0 % 128) (group.0 % 128)) [
      | inl below ↦ valid_agrees c a uber (other_back uber (λ e. omega arith)) valid
      | inr ge ↦ elim (cases_lt (group.0 % 128) (uber.group.0 % 128)) [
        | inl above ↦ valid_agrees c a uber (other_back uber (λ e. omega arith)) valid
        | inr le ↦ same_slot_back uber (omega arith) valid
      ]
    ]

    -- a slot that is valid still has its gate as it was
    gate_stays : (uber : Uber) → IsValid c uber → Within (slot_place uber.group.0) 1024 gate → byte c gate ≡ byte a gate
    gate_stays uber valid in_slot =
        let same : uber.group.0 % 128 ≡ group.0 % 128 = omega (arith, in_slot.0, in_slot.1) in
        let place : slot_place uber.group.0 + 1023 ≡ gate = ap (λ (n : ℕ). 4096 + 1024 * n + 1023) same in
        ap (λ (p : ℕ). byte c p) (sym place) ∙ sym (byte-bytes_at c (slot_place uber.group.0) 1024 1023 (omega arith)) ∙ valid.gate ∙ sym gate_open

    kept_stays : (uber : Uber) → IsValid c uber → (p : ℕ) → IsKept start uber p → p < length a → byte c p ≡ byte a p
    kept_stays uber valid p kept lt = elim (cases_lt p gate) [
      | inl below ↦ same_but_gate p lt (λ e. omega arith)
      | inr ge ↦ elim (cases_lt gate p) [
        | inl above ↦ same_but_gate p lt (λ e. omega arith)
        | inr le ↦
            let at : p ≡ gate = omega arith in
            elim (kept_where start uber p valid.limits.group kept) [
              | inl front ↦ absurd (omega arith)
              | inr rest ↦ elim rest [
                | inl in_slot ↦ ap (λ (q : ℕ). byte c q) at ∙ gate_stays uber valid (omega (arith, in_slot.0), omega (arith, in_slot.1)) ∙ sym (ap (λ (q : ℕ). byte a q) at)
                | inr behind ↦ absurd (omega arith)
              ]
            ]
      ]
    ]

    pub turning : IsRewinding opened start c
    turning = record {
      valid = valid_agrees a c opened (other_slot opened apart_slots) turned.run.valid;
      no_more = λ uber valid. turned.run.no_more uber (valid_back uber valid);
      keeps = λ uber valid p kept lt. kept_stays uber valid p kept (omega (arith, turned.no_shorter)) ∙ turned.run.keeps uber (valid_back uber valid) p kept lt;
    }

    ring_other : (slot : ℕ) → slot ≢ group.0 % 128 → (found : Option Group) → SlotGroup a slot found → SlotGroup c slot found
    ring_other slot differ found was =
        slot_group_moved a c slot found (λ uber at valid. valid_back uber valid)
        (λ uber at valid. valid_agrees a c uber (other_slot uber (λ e. differ (sym at ∙ e))) valid) was

  -- after the gate was closed, and flushed
  module _ (new : DiskState) (now : old.may_leave a) (holds : Holds a gate (0 ∷ []) (bytes_of new)) where
    abbrev c : List ℕ
    c = bytes_of new

    from_holds : Before old (Outside gate 1) c
    from_holds = (a, now, torn_holds a gate (0 ∷ []) c holds)

    gate_shut : byte c gate ≡ 0
    gate_shut = ap (λ (p : ℕ). byte c p) (let e : gate ≡ gate + 0 = omega arith in e) ∙ holds.inside 0 (omega arith)

    no_longer_valid : (uber : Uber) → uber.group.0 % 128 ≡ group.0 % 128 → IsValid c uber → ⊥
    no_longer_valid uber same valid =
        let place : slot_place uber.group.0 + 1023 ≡ gate = ap (λ (n : ℕ). 4096 + 1024 * n + 1023) same in
        let open_ : byte c gate ≡ 0xB1 = ap (λ (p : ℕ). byte c p) (sym place) ∙ sym (byte-bytes_at c (slot_place uber.group.0) 1024 1023 (omega arith)) ∙ valid.gate in
        omega (arith, gate_shut, open_)

    ring_after : length groups ≡ 128 → IsRing c (set groups (group.0 % 128) None) 128
    ring_after len slot lt = elim (cases_lt slot (group.0 % 128)) [
      | inl below ↦ ring_at slot lt (λ e. omega arith)
      | inr ge ↦ elim (cases_lt (group.0 % 128) slot) [
        | inl above ↦ ring_at slot lt (λ e. omega arith)
        | inr le ↦
            let at : slot ≡ group.0 % 128 = omega arith in
            subst (λ (found : Option Group). SlotGroup c slot found)
            (sym (ap (λ (k : ℕ). get_or (set groups (group.0 % 128) None) k None) at ∙ get_or-set_same groups (group.0 % 128) None None (omega arith)))
            (λ uber is valid. no_longer_valid uber (is ∙ at) valid)
      ]
    ]
      where
        ring_at : (slot : ℕ) → slot < 128 → slot ≢ group.0 % 128 → SlotGroup c slot (get_or (set groups (group.0 % 128) None) slot None)
        ring_at slot lt differ =
            subst (λ (found : Option Group). SlotGroup c slot found) (sym (get_or-set_other groups (group.0 % 128) slot None None differ))
            (ring_other c from_holds slot differ (get_or groups slot None) (turned.ring slot lt))

    pub turned_more : length groups ≡ 128 → Tells new → Only (bytes_of new) new.may_leave → IsTurned opened start new (set groups (group.0 % 128) None)
    turned_more len tells only = record {
      tells = tells;
      flushed = only;
      no_shorter = omega (arith, turned.no_shorter, holds.no_shorter);
      run = turning c from_holds;
      ring = ring_after len;
    }
