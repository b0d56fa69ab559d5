-- Where a rewind ends: the number of its flushes, and what a stop leaves from the last one on.
use Rattle.std.proofs.Common.{◌≡◌, ◌≢◌, inl, inr, ℕ, zero, suc, ◌+◌, ◌%◌, ◌<◌, Option, Some, None, Result, Ok, Err, List, [], ◌∷◌, ◌++◌, length, get_or, set, refl, sym, ◌∙◌, ap, subst, arith, append_assoc, length-append, cond, not, Bool, ne_eqb, eq-eqb}
use Rattle.std.specs.Prelude.{OnOk}
use Rattle.std.proofs.lemmas.Bool.{cases_eq}
use Rattle.std.proofs.lemmas.List.Sums.{sum_by-set, sum_by-cons}
use Rattle.zms_units.specs.declared.segments.Group.{Group}
use Rattle.zms_dev.specs.Disk.{DiskState, bytes_of}
use Rattle.zms_dev.specs.Runs.{LeavesOnly}
use Rattle.zms_dev.proofs.Moments.{OnlyNow}
use Rattle.uber_ring.specs.Slots.{IsValid}
use Rattle.uber_ring.specs.declared.slot.Uber.{Uber}
use Rattle.uber_ring.proofs.NewestSoFar.{one_in_slot}
use Rattle.meta_store.specs.Rewinds.{IsRewinding, IsRewound, SlotGroup, IsRing, IsTurnedLast, HasClosed, ClosesOthers, EndsRewound, is_other, others_in}

module _ (opened : Group) where
  abbrev weight : Option Group → ℕ
  weight o = cond (is_other opened o) 1 0

  weight_other : (group : Group) → (group.0 ≡ opened.0 → ⊥) → weight (Some group) ≡ 1
  weight_other group differ = ap (λ (b : Bool). cond (not b) 1 0) (ne_eqb group.0 opened.0 differ)

  weight_same : (group : Group) → group.0 ≡ opened.0 → weight (Some group) ≡ 0
  weight_same group same = ap (λ (b : Bool). cond (not b) 1 0) (eq-eqb group.0 opened.0 same)

  with_head : (o : Option Group) (groups : List (Option Group)) → others_in (o ∷ groups) opened ≡ weight o + others_in groups opened
  with_head o groups = sum_by-cons weight o groups

  -- where no other group stands in the ring, none is counted
  pub no_others : (groups : List (Option Group)) → ((k : ℕ) (group : Group) → k < length groups → get_or groups k None ≡ Some group → group ≡ opened) → others_in groups opened ≡ 0
  no_others [] none = refl
  no_others (o ∷ groups) none = with_head o groups ∙ omega (arith, first o refl, no_others groups (λ k group lt at. none (suc k) group (omega (arith, lt)) at)) where
    first : (found : Option Group) → o ≡ found → weight o ≡ 0
    first None is = ap weight is
    first (Some group) is = ap weight is ∙ weight_same group (ap (λ (g : Group). g.0) (none 0 group (omega arith) is))

  -- and the other way round
  pub only_opened : (groups : List (Option Group)) (k : ℕ) (group : Group) → others_in groups opened ≡ 0 → get_or groups k None ≡ Some group → group ≡ opened
  only_opened [] k group none at = absurd (cc)
  only_opened (o ∷ groups) zero group none at = elim (cases_eq group.0 opened.0) [
    | inl same ↦ λ i. record { 0 = same i }
    | inr differ ↦ absurd (omega (arith, none, with_head o groups, ap weight at, weight_other group differ))
  ]
  only_opened (o ∷ groups) (suc k) group none at = only_opened groups k group (omega (arith, none, with_head o groups)) at

  -- a group that is struck off is counted no more
  pub others_struck : (groups : List (Option Group)) (slot : ℕ) (group : Group) → group ≢ opened → slot < length groups → get_or groups slot None ≡ Some group
      → others_in (set groups slot None) opened + 1 ≡ others_in groups opened
  others_struck groups slot group differ lt entry =
      let sums = sum_by-set weight groups slot None None lt in
      let one : weight (get_or groups slot None) ≡ 1 = ap weight entry ∙ weight_other group (λ same. differ (λ i. record { 0 = same i })) in
      omega (arith, sums, one)

-- one flush more
pub closed_more : (n : ℕ) (old mid new : DiskState) → HasClosed n old mid → new.flushes ≡ mid.flushes ++ new.moment ∷ [] → HasClosed (n + 1) old new
closed_more n old mid new (inl (none, same)) noted = inr ([], (omega (arith, none), noted ∙ ap (λ (f : List ℕ). f ++ new.moment ∷ []) same))
closed_more n old mid new (inr (before, (many, was))) noted = inr (
  before ++ mid.moment ∷ [],
  (
    omega (arith, many, length-append before (mid.moment ∷ [])),
    noted ∙ ap (λ (f : List ℕ). f ++ new.moment ∷ []) was ∙ append_assoc old.flushes (before ++ mid.moment ∷ []) (new.moment ∷ []),
  ),
)

-- the ring was read before
pub closed_from : (n : ℕ) (old mid new : DiskState) → mid.flushes ≡ old.flushes → HasClosed n mid new → HasClosed n old new
closed_from n old mid new rests (inl (none, same)) = inl (none, same ∙ rests)
closed_from n old mid new rests (inr (before, (many, noted))) = inr (before, (many, noted ∙ ap (λ (f : List ℕ). f ++ (before ++ new.moment ∷ [])) rests))

module _ (uber : Uber) (old mid new : DiskState) (opened : Group) (is : uber.group ≡ opened) (same : bytes_of mid ≡ bytes_of old) (noted : mid.flushes ≡ old.flushes ++ mid.moment ∷ [])
    (valid : IsValid (bytes_of old) uber) (only : OnlyNow new) where
  abbrev a : List ℕ
  a = bytes_of old

  -- a ring without others
  module _ (groups : List (Option Group)) (ring : IsRing a groups 128) (none : others_in groups opened ≡ 0) where
    of_slot : (other : Uber) → IsValid a other → (found : Option Group) → get_or groups (other.group.0 % 128) None ≡ found → SlotGroup a (other.group.0 % 128) found → other ≡ uber
    of_slot other there None at slot = absurd (slot other refl there)
    of_slot other there (Some group) at slot =
        let here : group ≡ uber.group = only_opened opened groups (other.group.0 % 128) group none at ∙ sym is in
        one_in_slot a other uber (sym slot.0 ∙ ap (λ (g : Group). g.0 % 128) here) there valid

    alone : (other : Uber) → IsValid a other → other ≡ uber
    alone other there = of_slot other there (get_or groups (other.group.0 % 128) None) refl (ring (other.group.0 % 128) (omega arith))

  ended : LeavesOnly mid new (IsRewinding uber (bytes_of mid)) → ClosesOthers opened mid new → IsTurnedLast uber (bytes_of mid) new → EndsRewound uber old new
  ended run closes last = by closes.closed where
    ring : IsRing a closes.groups 128
    ring = subst (λ (b : List ℕ). IsRing b closes.groups 128) same closes.ring

    as_counted : others_in closes.groups opened ≡ others_in closes.groups uber.group
    as_counted = ap (others_in closes.groups) (sym is)

    by : HasClosed (others_in closes.groups opened) mid new → EndsRewound uber old new
    by (inl (none, rests)) = record {
      moment = mid.moment;
      ends = record { groups = closes.groups; slots = closes.slots; ring = ring; before = []; many = sym none ∙ as_counted; rest = []; noted = rests ∙ noted };
      early = run.later;
      since = λ c left.
          let here : IsRewinding uber a c = subst (λ (b : List ℕ). IsRewinding uber b c) same (run.each c left) in
          record { run = here; only = λ other there. alone closes.groups ring none other (here.no_more other there) };
    }
    by (inr (before, (many, more))) = record {
      moment = new.moment;
      ends = record {
        groups = closes.groups;
        slots = closes.slots;
        ring = ring;
        before = mid.moment ∷ before;
        many = omega (arith, many) ∙ as_counted;
        rest = [];
        noted = more ∙ ap (λ (f : List ℕ). f ++ (before ++ new.moment ∷ [])) noted ∙ append_assoc old.flushes (mid.moment ∷ []) (before ++ new.moment ∷ []);
      };
      early = omega arith;
      since = λ c left.
          let here : IsRewound uber a (bytes_of new) = subst (λ (b : List ℕ). IsRewound uber b (bytes_of new)) same last.rewound in
          subst (IsRewound uber a) (sym (last.flushed c (only c left))) here;
    }

  pub ends_rewound : {T E : Type 0} (r : Result T E) → LeavesOnly mid new (IsRewinding uber (bytes_of mid)) → OnOk r (ClosesOthers opened mid new) → OnOk r (IsTurnedLast uber (bytes_of mid) new) → OnOk r (EndsRewound uber old new)
  ends_rewound (Ok x) run closes last = ended run closes last
  ends_rewound (Err e) run closes last = tt
