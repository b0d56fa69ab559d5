-- The groups of the ring's slots, as they are read.
use Rattle.std.proofs.Common.{◌≡◌, ◌≢◌, ◌⊎◌, inl, inr, ℕ, ◌+◌, ◌*◌, ◌%◌, ◌<◌, Option, Some, None, List, length, get_or, set, refl, sym, ◌∙◌, ap, subst, arith}
use Rattle.std.specs.Prelude.{IfSome, IfNone, is_some, count_by, cond}
use Rattle.std.proofs.lemmas.List.Sums.{sum_by-set}
use Rattle.std.proofs.lemmas.Bool.{cases_lt}
use Rattle.std.proofs.lemmas.List.{get_or-set_same, get_or-set_other}
use Rattle.byteorder.specs.Endian.{little_from}
use Rattle.zms_dev.specs.Bytes.{part}
use Rattle.zms_units.specs.declared.segments.Group.{Group}
use Rattle.vdev_map.specs.Places.{slot_place}
use Rattle.uber_ring.specs.Numbers.{number_at}
use Rattle.uber_ring.specs.Slots.{IsValid}
use Rattle.uber_ring.specs.declared.slot.Uber.{Uber}
use Rattle.uber_ring.proofs.Pieces.{bytes_at_is_part, number_in_piece}
use Rattle.meta_store.specs.Rewinds.{SlotGroup, IsRing, ArePlaced}

little_is_number : (bytes : List ℕ) → little_from 0 8 bytes ≡ number_at bytes 0 8
unfolding number_at
little_is_number bytes = refl

-- eight bytes that were read
pub number_read : (image buf : List ℕ) (at : ℕ) → buf ≡ part image at 8 → little_from 0 8 buf ≡ number_at image at 8
number_read image buf at is =
    little_is_number buf ∙ ap (λ (b : List ℕ). number_at b 0 8) (is ∙ sym (bytes_at_is_part image at 8)) ∙ number_in_piece image at 8 0 8 (omega arith)
    ∙ ap (λ (p : ℕ). number_at image p 8) (let e : at + 0 ≡ at = omega arith in e)

module _ (image : List ℕ) (slot : ℕ) (lt : slot < 128) where
  -- a slot that is valid names its group
  slot_names : (uber : Uber) → uber.group.0 % 128 ≡ slot → IsValid image uber → uber.group.0 ≡ number_at image (slot_place slot + 16) 8
  slot_names uber here valid =
      let place : slot_place uber.group.0 ≡ slot_place slot = ap (λ (n : ℕ). 4096 + 1024 * n) (let e : uber.group.0 % 128 ≡ slot % 128 = omega arith in e) in
      sym valid.body.fields.group ∙ number_in_piece image (slot_place uber.group.0) 1024 16 8 (omega arith) ∙ ap (λ (p : ℕ). number_at image (p + 16) 8) place

  module _ (group : Group) (named : group.0 ≡ number_at image (slot_place slot + 16) 8) where
    pub no_group : group.0 % 128 ≢ slot → SlotGroup image slot None
    no_group differ uber here valid =
        let same : uber.group.0 ≡ group.0 = slot_names uber here valid ∙ sym named in
        differ (sym (ap (λ (n : ℕ). n % 128) same) ∙ here)

    pub not_valid : ((uber : Uber) → uber.group ≡ group → IsValid image uber → ⊥) → SlotGroup image slot None
    not_valid none uber here valid =
        let same : uber.group.0 ≡ group.0 = slot_names uber here valid ∙ sym named in
        none uber (λ i. record { 0 = same i }) valid

    pub is_valid : (uber : Uber) → uber.group ≡ group → group.0 % 128 ≡ slot → IsValid image uber → SlotGroup image slot (Some group)
    is_valid uber is here valid = (here, (uber, (is, valid)))

-- one slot more
pub ring_more : (image : List ℕ) (groups : List (Option Group)) (slot : ℕ) (found : Option Group) → slot < length groups → IsRing image groups slot → SlotGroup image slot found → IsRing image (set groups slot found) (slot + 1)
ring_more image groups slot found lt was is k below = elim (cases_lt k slot) [
  | inl before ↦
      let other : k ≢ slot = omega arith in
      subst (λ (f : Option Group). SlotGroup image k f) (sym (get_or-set_other groups slot k found None other)) (was k before)
  | inr here ↦
      let at : k ≡ slot = omega arith in
      subst (λ (n : ℕ). SlotGroup image n (get_or (set groups slot found) n None)) (sym at)
      (subst (λ (f : Option Group). SlotGroup image slot f) (sym (get_or-set_same groups slot found None lt)) is)
]

pub placed_more : (groups : List (Option Group)) (slot : ℕ) (found : Option Group) → slot < length groups → ArePlaced groups slot → IfSome found (λ group. group.0 % 128 ≡ slot) → ArePlaced (set groups slot found) (slot + 1)
placed_more groups slot found lt was is k below = elim (cases_lt k slot) [
  | inl before ↦
      let other : k ≢ slot = omega arith in
      subst (λ (f : Option Group). IfSome f (λ group. group.0 % 128 ≡ k)) (sym (get_or-set_other groups slot k found None other)) (was k before)
  | inr here ↦
      let at : k ≡ slot = omega arith in
      subst (λ (n : ℕ). IfSome (get_or (set groups slot found) n None) (λ group. group.0 % 128 ≡ n)) (sym at)
      (subst (λ (f : Option Group). IfSome f (λ group. group.0 % 128 ≡ slot)) (sym (get_or-set_same groups slot found None lt)) is)
]

-- a group that is struck off
pub placed_struck : (groups : List (Option Group)) (slot n : ℕ) → slot < length groups → ArePlaced groups n → ArePlaced (set groups slot None) n
placed_struck groups slot n lt was k below = elim (cases_lt k slot) [
  | inl before ↦ let other : k ≢ slot = omega arith in subst (λ (f : Option Group). IfSome f (λ group. group.0 % 128 ≡ k)) (sym (get_or-set_other groups slot k None None other)) (was k below)
  | inr ge ↦ elim (cases_lt slot k) [
    | inl after ↦ let other : k ≢ slot = omega arith in subst (λ (f : Option Group). IfSome f (λ group. group.0 % 128 ≡ k)) (sym (get_or-set_other groups slot k None None other)) (was k below)
    | inr le ↦
        let at : k ≡ slot = omega arith in
        subst (λ (f : Option Group). IfSome f (λ group. group.0 % 128 ≡ k)) (sym (ap (λ (j : ℕ). get_or (set groups slot None) j None) at ∙ get_or-set_same groups slot None None lt)) tt
  ]
]

-- the entry of a group that stands in the list
pub entry_placed : (groups : List (Option Group)) (n k : ℕ) (group : Group) → ArePlaced groups n → k < n → get_or groups k None ≡ Some group → get_or groups (group.0 % 128) None ≡ Some group
entry_placed groups n k group placed lt entry =
    let here : group.0 % 128 ≡ k = subst (λ (f : Option Group). IfSome f (λ g. g.0 % 128 ≡ k)) entry (placed k lt) in
    ap (λ (j : ℕ). get_or groups j None) here ∙ entry

-- and there is one group less without it
pub struck_fewer : (groups : List (Option Group)) (slot : ℕ) (group : Group) → slot < length groups → get_or groups slot None ≡ Some group → count_by is_some (set groups slot None) < count_by is_some groups
struck_fewer groups slot group lt entry =
    let sums = sum_by-set (λ (o : Option Group). cond (is_some o) 1 0) groups slot None None lt in
    let weight : Option Group → ℕ = λ o. cond (is_some o) 1 0 in
    let one : weight (get_or groups slot None) ≡ weight (Some group) = ap weight entry in
    omega (arith, sums, one)

-- the group that is closed next
abbrev pub IsNextBelow : List (Option Group) → Group → ℕ → Option Group → Type 0
IsNextBelow groups opened n next =
    IfSome next (λ group. (group ≢ opened) × ((k : ℕ) × ((k < n) × (get_or groups k None ≡ Some group))))
    × IfNone next ((k : ℕ) (group : Group) → k < n → get_or groups k None ≡ Some group → group ≡ opened)

pub next_differs : (groups : List (Option Group)) (opened : Group) (n : ℕ) (next : Option Group) → IsNextBelow groups opened n next → IfSome next (λ group. group ≢ opened)
next_differs groups opened n None is = tt
next_differs groups opened n (Some group) is = is.0.0

if_is : (opened group : Group) (found : Option Group) → found ≡ Some group → IfSome found (λ g. g ≡ opened) → group ≡ opened
if_is opened group None is same = absurd (cc)
if_is opened group (Some other) is same = let e : other ≡ group = cc in sym e ∙ same

pub next_more : (groups : List (Option Group)) (opened : Group) (n : ℕ) (best found next : Option Group) → IsNextBelow groups opened n best → found ≡ get_or groups n None
    → IfSome next (λ group. (group ≢ opened) × ((best ≡ Some group) ⊎ (found ≡ Some group))) → IfNone next ((best ≡ None) × IfSome found (λ group. group ≡ opened))
    → IsNextBelow groups opened (n + 1) next
next_more groups opened n best found None was is some none = (
  tt,
  λ k group lt entry. elim (cases_lt k n) [
    | inl before ↦ (subst (λ (o : Option Group). IfNone o ((k : ℕ) (group : Group) → k < n → get_or groups k None ≡ Some group → group ≡ opened)) none.0 was.1) k group before entry
    | inr last ↦
        let at : k ≡ n = omega arith in
        if_is opened group found (is ∙ ap (λ (j : ℕ). get_or groups j None) (sym at) ∙ entry) none.1
  ],
)
next_more groups opened n best found (Some group) was is some none = ((some.0, of_either some.1), tt) where
  of_best : (o : Option Group) → best ≡ o → o ≡ Some group → IfSome o (λ g. (g ≢ opened) × ((k : ℕ) × ((k < n) × (get_or groups k None ≡ Some g)))) → (k : ℕ) × ((k < n + 1) × (get_or groups k None ≡ Some group))
  of_best None is here at = absurd (cc)
  of_best (Some other) is here at = let e : other ≡ group = cc in (at.1.0, (omega (arith, at.1.1.0), at.1.1.1 ∙ ap (λ (g : Group). Some g) e))

  of_either : (best ≡ Some group) ⊎ (found ≡ Some group) → (k : ℕ) × ((k < n + 1) × (get_or groups k None ≡ Some group))
  of_either (inl same) = of_best best refl same was.0
  of_either (inr same) = (n, (omega arith, sym is ∙ same))
