-- The stages in which a slot is written, and what a stop in each may leave.
use Rattle.std.proofs.Common.{◌≡◌, inl, inr, ℕ, ◌+◌, ◌*◌, ◌%◌, ◌<◌, ◌≤◌, List, [], ◌∷◌, ◌++◌, length, Result, Ok, Err, sym, ◌∙◌, ap, subst, arith, append_assoc, length-append}
use Rattle.std.specs.Prelude.{OnOk}
use Rattle.zms_dev.specs.Bytes.{byte, Outside, Holds, Torn}
use Rattle.zms_dev.specs.Disk.{DiskState, bytes_of, Only}
use Rattle.zms_dev.specs.Runs.{Before}
use Rattle.zms_dev.proofs.Keeping.{kept_only}
use Rattle.vdev_map.specs.Places.{slot_place}
use Rattle.uber_ring.specs.Numbers.{bytes_at}
use Rattle.uber_ring.specs.Slots.{IsBody, IsUber, IsValidSlot, HasZeros}
use Rattle.uber_ring.specs.Writes.{Within, HasFlushed, IsOldOrNew, IsWritten, Flushes, IsOld, IsNotValid, IsNew, IsShut, IsFilled}
use Rattle.uber_ring.specs.declared.slot.Uber.{Uber}
use Rattle.uber_ring.proofs.Pieces.{byte-bytes_at, bytes_at_same}
use Rattle.uber_ring.proofs.SlotBytes.{body_same, one_body}

-- the byte of a slot that stands at a place of the image
slot_byte : (image : List ℕ) (at k : ℕ) → k < 1024 → byte (bytes_at image at 1024) k ≡ byte image (at + k)
slot_byte image at k lt = byte-bytes_at image at 1024 k lt

-- images that agree on the body of a slot
body_moved : (b c : List ℕ) (at : ℕ) (uber : Uber) → ((p : ℕ) → at ≤ p → p < at + 1023 → byte c p ≡ byte b p) → IsBody (bytes_at b at 1024) uber → IsBody (bytes_at c at 1024) uber
body_moved b c at uber same body =
    body_same (bytes_at b at 1024) (bytes_at c at 1024) uber
    (λ p lt. slot_byte c at p (omega arith) ∙ same (at + p) (omega arith) (omega arith) ∙ sym (slot_byte b at p (omega arith)))
    body

module _ (b c : List ℕ) (at : ℕ) where
  -- they agree on the whole slot
  valid_same : ((p : ℕ) → at ≤ p → p < at + 1024 → byte c p ≡ byte b p) → IsOld at b c
  valid_same same found valid = subst (λ (slot : List ℕ). IsValidSlot slot found) (bytes_at_same b c at 1024 same) valid

  -- on all but the gate, which was open
  valid_but_gate : ((p : ℕ) → at ≤ p → p < at + 1023 → byte c p ≡ byte b p) → byte b (at + 1023) ≡ 0xB1 → IsOld at b c
  valid_but_gate same open_ found valid = record {
    gate = slot_byte b at 1023 (omega arith) ∙ open_;
    body = body_moved c b at found (λ p low high. sym (same p low high)) valid.body;
    limits = valid.limits;
  }

module _ (old : DiskState) (at : ℕ) where
  abbrev b : List ℕ
  b = bytes_of old

  -- before anything is written
  pub resting : HasFlushed old at 1024 → (c : List ℕ) → old.may_leave c → IsOld at b c
  resting flushed c now = valid_same b c at (λ p low high. (flushed c now).same p (low, high))

  -- an open gate is being closed
  pub closing : HasFlushed old at 1024 → byte b (at + 1023) ≡ 0xB1 → (c : List ℕ) → Before old (Outside (at + 1023) 1) c → IsOld at b c
  closing flushed open_ c from =
      let was = flushed from.0 from.1 in
      valid_but_gate b c at
      (λ p low high.
      let here : Within at 1024 p = (low, omega arith) in
      from.2.same p (was.lies p here) (λ le. omega arith) ∙ was.same p here)
      open_

  -- the rest is being written under a closed gate
  pub filling : IsShut old at → (n : ℕ) → n ≤ 1023 → (c : List ℕ) → Before old (Outside at n) c → IsNotValid at c
  filling shut n short c from found valid =
      let was = shut.flushed from.0 from.1 in
      let here : Within (at + 1023) 1 (at + 1023) = (omega arith, omega arith) in
      let gate : byte c (at + 1023) ≡ byte b (at + 1023) = from.2.same (at + 1023) (was.lies (at + 1023) here) (λ le. omega arith) ∙ was.same (at + 1023) here in
      shut.closed (sym gate ∙ sym (slot_byte c at 1023 (omega arith)) ∙ valid.gate)

  -- the gate is being opened
  pub opening : (uber : Uber) → IsFilled old at uber → (c : List ℕ) → Before old (Outside (at + 1023) 1) c → IsNew at uber c
  opening uber filled c from found valid =
      let torn : Torn (Outside (at + 1023) 1) b c = subst (λ (d : List ℕ). Torn (Outside (at + 1023) 1) d c) (filled.flushed from.0 from.1) from.2 in
      let body : IsBody (bytes_at c at 1024) uber = body_moved b c at uber (λ p low high. torn.same p (omega (arith, filled.long)) (λ le. omega arith)) filled.body in
      one_body (bytes_at c at 1024) found uber valid.body.fields body.fields

module _ (new : DiskState) (at : ℕ) where
  -- a gate that was closed, and flushed
  pub shut_put : (a : List ℕ) → Holds a (at + 1023) (0 ∷ []) (bytes_of new) → Only (bytes_of new) new.may_leave → IsShut new at
  shut_put a holds only =
      let closed : byte (bytes_of new) (at + 1023) ≡ 0 = ap (λ (p : ℕ). byte (bytes_of new) p) (let e : at + 1023 ≡ at + 1023 + 0 = omega arith in e) ∙ holds.inside 0 (omega arith) in
      record {
        flushed = kept_only (Within (at + 1023) 1) (bytes_of new) new (λ p here. omega (arith, here.1, holds.reaches (omega arith))) only;
        closed = λ open_. omega (arith, closed, open_);
      }

  pub filled_put : (a body : List ℕ) (uber : Uber) → Holds a at body (bytes_of new) → Only (bytes_of new) new.may_leave → length body ≡ 1023 → IsBody body uber → HasZeros body → IsFilled new at uber
  filled_put a body uber holds only len is zeros =
      let there : (k : ℕ) → k < 1023 → byte (bytes_at (bytes_of new) at 1024) k ≡ byte body k = λ k lt. slot_byte (bytes_of new) at k (omega arith) ∙ holds.inside k (omega arith) in
      record {
        flushed = only;
        long = omega (arith, len, holds.reaches (omega arith));
        body = body_same body (bytes_at (bytes_of new) at 1024) uber (λ p lt. there p (omega arith)) is;
        zeros = λ k low high. there k high ∙ zeros k low high;
      }

-- a gate that was opened over a slot that was filled
pub written_put : (a b : List ℕ) (at : ℕ) (uber : Uber) → Holds a (at + 1023) (0xB1 ∷ []) b → IsBody (bytes_at a at 1024) uber → HasZeros (bytes_at a at 1024) → IsUber uber → at ≡ slot_place uber.group.0 → IsWritten b uber
written_put a b at uber holds body zeros limits place =
    let same : (p : ℕ) → at ≤ p → p < at + 1023 → byte b p ≡ byte a p = λ p low high. holds.outside p (λ le. absurd (omega arith)) in
    let valid : IsValidSlot (bytes_at b at 1024) uber = record {
      gate = slot_byte b at 1023 (omega arith) ∙ ap (λ (p : ℕ). byte b p) (let e : at + 1023 ≡ at + 1023 + 0 = omega arith in e) ∙ holds.inside 0 (omega arith);
      body = body_moved a b at uber same body;
      limits = limits;
    } in
    let rest : HasZeros (bytes_at b at 1024) = λ k low high. slot_byte b at k (omega arith) ∙ same (at + k) (omega arith) (omega arith) ∙ sym (slot_byte a at k (omega arith)) ∙ zeros k low high in
    record {
      valid = subst (λ (p : ℕ). IsValidSlot (bytes_at b p 1024) uber) place valid;
      zeros = subst (λ (p : ℕ). HasZeros (bytes_at b p 1024)) place rest;
    }

-- what holds of the slot at a place holds of that of the group
module _ (b c : List ℕ) (at : ℕ) (uber : Uber) (place : at ≡ slot_place uber.group.0) where
  there : (found : Uber) → found.group.0 % 128 ≡ uber.group.0 % 128 → slot_place found.group.0 ≡ at
  there found same = ap (λ (n : ℕ). 4096 + 1024 * n) same ∙ sym place

  pub old_is : IsOld at b c → IsOldOrNew b uber c
  old_is old found same valid =
      let e = there found same in
      inr (subst (λ (p : ℕ). IsValidSlot (bytes_at b p 1024) found) (sym e) (old found (subst (λ (p : ℕ). IsValidSlot (bytes_at c p 1024) found) e valid)))

  pub new_is : IsNew at uber c → IsOldOrNew b uber c
  new_is new found same valid = inl (new found (subst (λ (p : ℕ). IsValidSlot (bytes_at c p 1024) found) (there found same) valid))

pub none_is_new : (at : ℕ) (uber : Uber) (c : List ℕ) → IsNotValid at c → IsNew at uber c
none_is_new at uber c none found valid = absurd (none found valid)

pub flushes_then : (m n : ℕ) (old mid new : DiskState) → Flushes m old mid → Flushes n mid new → Flushes (m + n) old new
flushes_then m n old mid new first second = record {
  more = first.more ++ second.more;
  few = omega (arith, length-append first.more second.more, first.few, second.few);
  noted = second.noted ∙ ap (λ (f : List ℕ). f ++ second.more) first.noted ∙ append_assoc old.flushes first.more second.more;
}

-- what holds at `Ok` follows from what holds there
pub on_ok : {T E : Type 0} (r : Result T E) (P Q : Type 0) → (P → Q) → OnOk r P → OnOk r Q
on_ok (Ok x) P Q f p = f p
on_ok (Err e) P Q f p = tt

pub on_ok_both : {T E : Type 0} (r : Result T E) (P R Q : Type 0) → (P → R → Q) → OnOk r P → OnOk r R → OnOk r Q
on_ok_both (Ok x) P R Q f p q = f p q
on_ok_both (Err e) P R Q f p q = tt
