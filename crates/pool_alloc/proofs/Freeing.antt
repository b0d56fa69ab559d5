-- What a free did, from its turns.
use Rattle.std.proofs.Common.{◌≡◌, ℕ, zero, suc, ◌+◌, ◌<◌, ◌≤◌, length, List, [], ◌∷◌, ◌++◌, take, drop, get_or, refl, sym, ap, subst, ◌∙◌, None, Result, Ok, Err, arith}
use Rattle.std.specs.Prelude.{map, IsErrAnd}
use Rattle.std.proofs.lemmas.Result.{err_from_is_err_and}
use Rattle.std.proofs.lemmas.List.{append-nil, map_more}
use Rattle.zms_units.specs.declared.segments.Seg.{Seg}
use Rattle.zms_units.specs.declared.segments.Group.{Group}
use Rattle.zms_units.specs.declared.blocks.Dva.{Dva}
use Rattle.zms_units.specs.declared.places.MsId.{MsId}
use Rattle.zms_units.specs.declared.places.Class.TheVariants.{Normal}
use Rattle.vdev_map.specs.Numbers.{number_of}
use Rattle.ms_model.specs.Gates.{open_group}
use Rattle.class_group.specs.Turns.{ClassTurns}
use Rattle.ms_core.specs.declared.faults.MsFault.TheVariants.{NotLoaded, NotLive as MsNotLive, Late as MsLate}
use Rattle.ms_cell.specs.Turns.{Turns}
use Rattle.ms_cell.specs.Answers.{FreeAnswer, IsLate}
use Rattle.ms_cell.specs.declared.answers.CellFault.{CellFault}
use Rattle.ms_cell.specs.declared.answers.CellFault.TheVariants.{Ms}
use Rattle.lane_passes.specs.Lanes.{LaneEvent, Ground, ground_of, IsSeated, Acted}
use Rattle.lane_passes.specs.Turns.{AtGate, AtMetaslab, Nothing, Then}
use Rattle.lane_passes.specs.declared.passes.LanePasses.{LanePasses}
use Rattle.lane_passes.proofs.Acting.{acted_none, acted_as, acted_join, acted_then}
use Rattle.pool_alloc.specs.Asks.{IsSegAt, offset_of}
use Rattle.pool_alloc.specs.Looks.{IsUnloadedAt}
use Rattle.pool_alloc.specs.Allocs.{Holding}
use Rattle.pool_alloc.specs.Frees.{Place, place_of, Misplaced, AreUnloaded, IsFreeAt, IsNotLiveAt, AreFreed, IsRefused, PlaceLine, IsRefusal, PlacesLine, FreeLine, IsLoadRefusal}
use Rattle.pool_alloc.specs.Frees.AreUnloaded.{none as none_yet, more as more_yet}
use Rattle.pool_alloc.specs.Frees.AreFreed.{none as none_freed, more as more_freed}
use Rattle.pool_alloc.specs.declared.answers.FreeFault.{FreeFault}
use Rattle.pool_alloc.specs.declared.answers.FreeFault.TheVariants.{NoSuch, BadSeg, NotLive, Late, Device, Damaged, Suspended, Memory}

-- what a refusal hands on
pub err_given : {T E : Type 0} (r : Result T E) (fault : E) → IsErrAnd r (λ given. given ≡ fault) → r ≡ Err fault
err_given r fault w = let p = err_from_is_err_and r w in p.1 ∙ ap Err p.2

unloaded_none : (group : Group) (id : MsId) (g : Ground) (es : List LaneEvent) → es ≡ [] → AreUnloaded group id g es
unloaded_none group id g es is = subst (λ (l : List LaneEvent). AreUnloaded group id g l) (sym is) none_yet

unloaded_still : (group : Group) (id : MsId) (g : Ground) (es fs : List LaneEvent) → AreUnloaded group id g es → fs ≡ [] → AreUnloaded group id g (es ++ fs)
unloaded_still group id g es fs so is = subst (λ (l : List LaneEvent). AreUnloaded group id g (es ++ l)) (sym is) (subst (λ (l : List LaneEvent). AreUnloaded group id g l) (sym (append-nil es)) so)

-- a place that is no segment
module _ (t : Turns) (lane : ℕ) (group : Group) (freed : ℕ) (place : Place) where
  misplaced : (fault : FreeFault) → Misplaced t.vdevs place fault → (g : Ground) (es : List LaneEvent) → g.vdevs ≡ t.vdevs → Nothing g es → IsRefused lane group freed place fault g es
  misplaced NoSuch wrong g es same is = (rw same wrong, is)
  misplaced BadSeg wrong g es same is = (rw same wrong, is)
  misplaced (NotLive _ _ _) wrong g es same is = absurd wrong
  misplaced (Late _ _) wrong g es same is = absurd wrong
  misplaced (Device _ _) wrong g es same is = absurd wrong
  misplaced (Damaged _ _) wrong g es same is = absurd wrong
  misplaced (Suspended _) wrong g es same is = absurd wrong
  misplaced (Memory _) wrong g es same is = absurd wrong

module _ {R : Type 0} (t : Turns) (lane : ℕ) (group : Group) (freed : ℕ) (place : Place) where
  pub no_place : (c : ClassTurns) (p : LanePasses R) (fault : FreeFault) → IsSeated t c p → Misplaced t.vdevs place fault → Acted t (PlaceLine lane group freed place (Err fault)) p p
  no_place c p fault s wrong = acted_as t Nothing (PlaceLine lane group freed place (Err fault)) p p (λ es x. misplaced t lane group freed place fault wrong (ground_of t p) es refl x) (acted_none t c p s)

nothing_more : (es fs : List LaneEvent) (Fact : Ground → List LaneEvent → Type 0) (g : Ground) → Fact g es → fs ≡ [] → Fact g (es ++ fs)
nothing_more es fs Fact g so is = subst (λ (l : List LaneEvent). Fact g (es ++ l)) (sym is) (subst (λ (l : List LaneEvent). Fact g l) (sym (append-nil es)) so)

module _ (lane : ℕ) (group : Group) (freed : ℕ) (place : Place) where
  -- a load was refused behind the last look
  refused_as : (fault : FreeFault) (g : Ground) (es : List LaneEvent) → IsLoadRefusal freed fault → IsFreeAt lane group place (λ id seg. IsUnloadedAt group id) g es → IsRefused lane group freed place fault g es
  refused_as NoSuch g es wrong x = absurd wrong
  refused_as BadSeg g es wrong x = absurd wrong
  refused_as (NotLive _ _ _) g es wrong x = absurd wrong
  refused_as (Late _ _) g es wrong x = absurd wrong
  refused_as (Device _ _) g es so x = x
  refused_as (Damaged _ _) g es so x = x
  refused_as (Suspended _) g es so x = x
  refused_as (Memory before) g es so x =
      let look = x.turns.second in (
        so,
        record {
          id = x.id;
          seg = x.seg;
          at = x.at;
          turns = record {
            one = x.turns.one;
            two = x.turns.two;
            whole = x.turns.whole;
            first = x.turns.first;
            second = record { before = look.before; note = look.note; is = look.is; answer = look.answer.0 };
          };
        },
      )

module _ {R : Type 0} (t : Turns) (lane : ℕ) (group : Group) (id : MsId) (seg : Seg) where
  pub begins : (c : ClassTurns) (p : LanePasses R) → IsSeated t c p → Acted t (λ g es. AreUnloaded group id g es) p p
  begins c p s = acted_as t Nothing (λ g es. AreUnloaded group id g es) p p (λ es x. unloaded_none group id (ground_of t p) es x) (acted_none t c p s)

  -- a look found no free space in memory, and it was loaded
  pub loads : (p q r x : LanePasses R) → Acted t (λ g es. AreUnloaded group id g es) p q
      → Acted t (λ g. AtMetaslab (number_of g.vdevs id) (FreeAnswer lane group seg (Err (Ms NotLoaded))) g) q r → Acted t Nothing r x → Acted t (λ g es. AreUnloaded group id g es) p x
  loads p q r x before look load =
      acted_join t _ Nothing (λ g es. AreUnloaded group id g es) p r x (λ es fs a b. unloaded_still group id (ground_of t p) es fs a b)
      (acted_join t _ _ (λ g es. AreUnloaded group id g es) p q r (λ es fs a b. more_yet es fs a (record { before = b.before; note = b.note; is = b.is; answer = b.answer })) before look) load

  -- a free, by the lane's number and by its answer
  pub free_as : (other : ℕ) (result answer : Result (Unit {0}) CellFault) (q r : LanePasses R) → other ≡ lane → result ≡ answer
      → Acted t (λ g. AtMetaslab (number_of g.vdevs id) (FreeAnswer other group seg result) g) q r → Acted t (λ g. AtMetaslab (number_of g.vdevs id) (FreeAnswer lane group seg answer) g) q r
  free_as other result answer q r same is a =
      subst (λ (x : Result (Unit {0}) CellFault). Acted t (λ g. AtMetaslab (number_of g.vdevs id) (FreeAnswer lane group seg x) g) q r) is
      (subst (λ (n : ℕ). Acted t (λ g. AtMetaslab (number_of g.vdevs id) (FreeAnswer n group seg result) g) q r) same a)

  module _ (freed : ℕ) (place : Place) (at : IsSegAt t.vdevs place.vdev place.offset place.size id seg) where
    -- the looks so far, and a last turn
    ends : (Turn : Ground → List LaneEvent → Type 0) (Last : MsId → Seg → Ground → List LaneEvent → Type 0) (p q r : LanePasses R)
        → ((es : List LaneEvent) → Turn (ground_of t p) es → Last id seg (ground_of t p) es) → Acted t (λ g es. AreUnloaded group id g es) p q → Acted t Turn q r → Acted t (IsFreeAt lane group place Last) p r
    ends Turn Last p q r means before turn =
        acted_join t _ Turn (IsFreeAt lane group place Last) p q r
        (λ es fs a b. record { id = id; seg = seg; at = at; turns = record { one = es; two = fs; whole = refl; first = a; second = means fs b } }) before turn

    pub frees : (p q r : LanePasses R) → Acted t (λ g es. AreUnloaded group id g es) p q
        → Acted t (λ g. AtMetaslab (number_of g.vdevs id) (FreeAnswer lane group seg (Ok (record {}))) g) q r → Acted t (PlaceLine lane group freed place (Ok (record {}))) p r
    frees p q r before turn =
        acted_as t _ (PlaceLine lane group freed place (Ok (record {}))) p r (λ es x. x)
        (ends _ (λ id seg g. AtMetaslab (number_of g.vdevs id) (λ o h note. FreeAnswer lane group seg (Ok (record {})) o h note) g) p q r
        (λ es b. record { before = b.before; note = b.note; is = b.is; answer = b.answer }) before turn)

    pub finds_dead : (unit : ℕ) (offset : ℕ) (p q r : LanePasses R) → offset ≡ offset_of t.vdevs id unit → Acted t (λ g es. AreUnloaded group id g es) p q
        → Acted t (λ g. AtMetaslab (number_of g.vdevs id) (FreeAnswer lane group seg (Err (Ms (MsNotLive unit)))) g) q r → Acted t (PlaceLine lane group freed place (Err (NotLive freed place.vdev offset))) p r
    finds_dead unit offset p q r is before turn =
        acted_as t _ (PlaceLine lane group freed place (Err (NotLive freed place.vdev offset))) p r (λ es x. (refl, x))
        (ends _ (λ id seg. IsNotLiveAt group place.vdev offset id seg) p q r
        (λ es b. record { unit = unit; on = sym at.on; offset_is = is; turn = record { before = b.before; note = b.note; is = b.is; answer = b.answer } }) before turn)

    pub finds_late : (asked collected : Group) (p q r : LanePasses R) → Acted t (λ g es. AreUnloaded group id g es) p q
        → Acted t (λ g. AtMetaslab (number_of g.vdevs id) (FreeAnswer lane group seg (Err (Ms (MsLate asked collected)))) g) q r → Acted t (PlaceLine lane group freed place (Err (Late asked collected))) p r
    finds_late asked collected p q r before turn =
        acted_as t _ (PlaceLine lane group freed place (Err (Late asked collected))) p r (λ es x. x)
        (ends _ (λ id seg g. AtMetaslab (number_of g.vdevs id) (λ o h note. (note ≡ None) × IsLate group asked collected o h) g) p q r
        (λ es b. record { before = b.before; note = b.note; is = b.is; answer = b.answer }) before turn)

    pub lacks_memory : (fault : CellFault) (p q r : LanePasses R) → Acted t (λ g es. AreUnloaded group id g es) p q
        → Acted t (λ g. AtMetaslab (number_of g.vdevs id) (FreeAnswer lane group seg (Err fault)) g) q r → Acted t (PlaceLine lane group freed place (Err (Memory freed))) p r
    lacks_memory fault p q r before turn =
        acted_as t _ (PlaceLine lane group freed place (Err (Memory freed))) p r (λ es x. (refl, x))
        (ends _ (λ id seg g. AtMetaslab (number_of g.vdevs id) (λ o h note. note ≡ None) g) p q r
        (λ es b. record { before = b.before; note = b.note; is = b.is; answer = b.answer.0 }) before turn)

    pub load_refused : (fault : FreeFault) (p q r x : LanePasses R) → IsLoadRefusal freed fault → Acted t (λ g es. AreUnloaded group id g es) p q
        → Acted t (λ g. AtMetaslab (number_of g.vdevs id) (FreeAnswer lane group seg (Err (Ms NotLoaded))) g) q r → Acted t Nothing r x → Acted t (PlaceLine lane group freed place (Err fault)) p x
    load_refused fault p q r x is before look load =
        acted_join t (IsFreeAt lane group place (λ id seg. IsUnloadedAt group id)) Nothing (PlaceLine lane group freed place (Err fault)) p r x
        (λ es fs a b. refused_as lane group freed place fault (ground_of t p) (es ++ fs) is (nothing_more es fs (IsFreeAt lane group place (λ id seg. IsUnloadedAt group id)) (ground_of t p) a b))
        (ends _ (λ id seg. IsUnloadedAt group id) p q r (λ es b. record { before = b.before; note = b.note; is = b.is; answer = b.answer }) before look) load

-- past the last copy
abbrev pub no_copy : Dva
no_copy = record { class = Normal; vdev = 0; offset = 0; size = 0 }

-- a list at a place in it
split_at : (copies : List Dva) (k : ℕ) (d : Dva) → k < length copies → map place_of copies ≡ map place_of (take k copies) ++ (place_of (get_or copies k d) ∷ map place_of (drop (suc k) copies))
split_at [] k d lt = absurd (omega arith)
split_at (x ∷ copies) zero d lt = refl
split_at (x ∷ copies) (suc k) d lt = ap (λ (l : List Place). place_of x ∷ l) (split_at copies k d (omega arith))

length_mapped : (copies : List Dva) (k : ℕ) → k ≤ length copies → length (map place_of (take k copies)) ≡ k
length_mapped copies zero within = refl
length_mapped [] (suc k) within = absurd (omega arith)
length_mapped (x ∷ copies) (suc k) within = ap suc (length_mapped copies k (omega arith))

-- one place alone
place_alone : (lane : ℕ) (group : Group) (place : Place) (result : Result (Unit {0}) FreeFault) (g : Ground) (es : List LaneEvent) → PlaceLine lane group 0 place result g es → PlacesLine lane group (place ∷ []) result g es
place_alone lane group place (Ok _) g es x = more_freed [] place [] es none_freed x
place_alone lane group place (Err fault) g es x = record { freed = []; place = place; rest = []; places_are = refl; turns = record { one = []; two = es; whole = refl; first = none_freed; second = x } }

module _ {R : Type 0} (t : Turns) (lane : ℕ) (group : Group) where
  pub begins_copies : (c : ClassTurns) (p : LanePasses R) (copies : List Dva) → IsSeated t c p → Acted t (λ g es. AreFreed lane group g (map place_of (take 0 copies)) es) p p
  begins_copies c p copies s =
      acted_as t Nothing (λ g es. AreFreed lane group g (map place_of (take 0 copies)) es) p p
      (λ es x. subst (λ (l : List LaneEvent). AreFreed lane group (ground_of t p) [] l) (sym x) none_freed) (acted_none t c p s)

  -- a free of one place, by the lane's number
  pub line_as : (other freed : ℕ) (place : Place) (result : Result (Unit {0}) FreeFault) (q r : LanePasses R) → other ≡ lane → Acted t (PlaceLine other group freed place result) q r → Acted t (PlaceLine lane group freed place result) q r
  line_as other freed place result q r same a = subst (λ (n : ℕ). Acted t (PlaceLine n group freed place result) q r) same a

  pub frees_copy : (copies : List Dva) (k freed : ℕ) (d dva : Dva) (p q r : LanePasses R) → k < length copies → dva ≡ get_or copies k d → Acted t (λ g es. AreFreed lane group g (map place_of (take k copies)) es) p q
      → Acted t (PlaceLine lane group freed (place_of dva) (Ok (record {}))) q r → Acted t (λ g es. AreFreed lane group g (map place_of (take (k + 1) copies)) es) p r
  frees_copy copies k freed d dva p q r lt is before one =
      subst (λ (l : List Place). Acted t (λ g es. AreFreed lane group g l es) p r)
      (ap (λ (x : Dva). map place_of (take k copies) ++ place_of x ∷ []) is ∙ sym (map_more place_of copies k d lt))
      (acted_join t _ (PlaceLine lane group freed (place_of dva) (Ok (record {}))) (λ g es. AreFreed lane group g (map place_of (take k copies) ++ place_of dva ∷ []) es) p q r
      (λ es fs a b. more_freed (map place_of (take k copies)) (place_of dva) es fs a b) before one)

  pub copy_refused : (copies : List Dva) (k freed : ℕ) (d dva : Dva) (fault : FreeFault) (p q r : LanePasses R) → k < length copies → freed ≡ k → dva ≡ get_or copies k d
      → Acted t (λ g es. AreFreed lane group g (map place_of (take k copies)) es) p q → Acted t (PlaceLine lane group freed (place_of dva) (Err fault)) q r
      → Acted t (PlacesLine lane group (map place_of copies) (Err fault)) p r
  copy_refused copies k freed d dva fault p q r lt count is before one =
      acted_join t _ (PlaceLine lane group freed (place_of dva) (Err fault)) (PlacesLine lane group (map place_of copies) (Err fault)) p q r
      (λ es fs a b. record {
        freed = map place_of (take k copies);
        place = place_of dva;
        rest = map place_of (drop (suc k) copies);
        places_are = split_at copies k d lt ∙ ap (λ (x : Dva). map place_of (take k copies) ++ (place_of x ∷ map place_of (drop (suc k) copies))) (sym is);
        turns = record {
          one = es;
          two = fs;
          whole = refl;
          first = a;
          second = subst (λ (n : ℕ). IsRefused lane group n (place_of dva) fault (ground_of t p) fs) (count ∙ sym (length_mapped copies k (omega arith))) b;
        };
      }) before one

  pub one_place : (place : Place) (result : Result (Unit {0}) FreeFault) (p q : LanePasses R) → Acted t (PlaceLine lane group 0 place result) p q → Acted t (PlacesLine lane group (place ∷ []) result) p q
  one_place place result p q a = acted_as t (PlaceLine lane group 0 place result) (PlacesLine lane group (place ∷ []) result) p q (λ es x. place_alone lane group place result (ground_of t p) es x) a

holding_as : (group : Group) (Inner Other : Ground → List LaneEvent → Type 0) (g : Ground) (es : List LaneEvent) → ((fs : List LaneEvent) → Inner g fs → Other g fs) → Holding group Inner g es → Holding group Other g es
holding_as group Inner Other g es means h =
    let rest = h.second in
    record { one = h.one; two = h.two; whole = h.whole; first = h.first; second = record { one = rest.one; two = rest.two; whole = rest.whole; first = means rest.one rest.first; second = rest.second } }

module _ {R : Type 0} (t : Turns) (lane : ℕ) (group : Group) (places : List Place) (p q r x : LanePasses R) where
  held : (result : Result (Unit {0}) FreeFault) → Acted t (λ g. AtGate (λ h note. (note ≡ None) × (group.0 ≡ open_group g.opened h)) g) p q → Acted t (PlacesLine lane group places result) q r → Acted t (AtGate (λ h note. note ≡ None)) r x
      → Acted t (Holding group (PlacesLine lane group places result)) p x
  held result hold free release =
      acted_then t (λ g. AtGate (λ h note. (note ≡ None) × (group.0 ≡ open_group g.opened h)) g) (Then (PlacesLine lane group places result) (AtGate (λ h note. note ≡ None))) p q x hold
      (acted_then t (PlacesLine lane group places result) (AtGate (λ h note. note ≡ None)) q r x free release)

  pub freed_line : Acted t (λ g. AtGate (λ h note. (note ≡ None) × (group.0 ≡ open_group g.opened h)) g) p q → Acted t (PlacesLine lane group places (Ok (record {}))) q r → Acted t (AtGate (λ h note. note ≡ None)) r x
      → Acted t (FreeLine lane places (Ok group)) p x
  freed_line hold free release =
      acted_as t _ (FreeLine lane places (Ok group)) p x
      (λ es h. holding_as group (PlacesLine lane group places (Ok (record {}))) (λ g es. AreFreed lane group g places es) (ground_of t p) es (λ fs f. f) h)
      (held (Ok (record {})) hold free release)

  pub refused_line : (fault : FreeFault) → Acted t (λ g. AtGate (λ h note. (note ≡ None) × (group.0 ≡ open_group g.opened h)) g) p q → Acted t (PlacesLine lane group places (Err fault)) q r
      → Acted t (AtGate (λ h note. note ≡ None)) r x → Acted t (FreeLine lane places (Err fault)) p x
  refused_line fault hold free release =
      acted_as t _ (FreeLine lane places (Err fault)) p x
      (λ es h. (group, holding_as group (PlacesLine lane group places (Err fault)) (IsRefusal lane group places fault) (ground_of t p) es (λ fs f. f) h))
      (held (Err fault) hold free release)
