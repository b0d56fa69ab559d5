-- The walk over a class's metaslabs, as a fact of what the lane did.
use Rattle.std.proofs.Common.{◌≡◌, ℕ, ◌≤◌, Bool, List, [], ◌∷◌, ◌++◌, length, refl, sym, ap, ◌∙◌, subst, append_assoc, arith, false, Option, Some, None, Result, Ok}
use Rattle.std.specs.Prelude.{IfSome}
use Rattle.std.proofs.lemmas.List.{append-nil}
use Rattle.std.proofs.lemmas.List.Elements.{All-nil, All-cons}
use Rattle.zms_units.specs.declared.blocks.Dva.{Dva}
use Rattle.zms_units.specs.declared.places.MsId.{MsId}
use Rattle.zms_units.specs.declared.places.Class.{Class}
use Rattle.zms_units.specs.declared.places.VdevRow.{VdevRow}
use Rattle.vdev_map.specs.Numbers.{IsIn}
use Rattle.ms_model.specs.declared.notes.Got.{Got}
use Rattle.ms_model.specs.declared.notes.Kind.{Kind}
use Rattle.ms_model.specs.declared.notes.Start.{Start}
use Rattle.class_core.specs.Classes.{ClassState, got_of}
use Rattle.class_model.specs.Replay.{LaneNote}
use Rattle.class_core.specs.declared.picked.Picked.{Picked}
use Rattle.class_group.specs.Turns.{place_for}
use Rattle.class_group.specs.Answers.{PickAnswer, IsNotedPick}
use Rattle.copy_walk.specs.Plans.{Plan, plan_of, IsMetaslab}
use Rattle.copy_walk.specs.Steps.{Step, Picking, pick_gave, look_failed, failed}
use Rattle.copy_walk.specs.Nexts.{IsNext, AreSteps}
use Rattle.copy_walk.specs.Walks.{WalkState, WasTold, IsToldPick, asked, IsPickOf, IsLook}
use Rattle.copy_walk.specs.declared.next.Next.{Next}
use Rattle.copy_walk.specs.declared.next.Next.TheVariants.{Pick, Look, Done}
use Rattle.copy_walk.proofs.Telling.{steps_push}
use Rattle.copy_walk.proofs.Staying.{of_class}
use Rattle.lane_passes.specs.Lanes.{LaneEvent, Ground}
use Rattle.lane_passes.specs.Turns.{AtClass, Then}
use Rattle.pool_alloc.specs.Asks.{Ask, kind_of, AreUnitsOn, bytes_on}
use Rattle.pool_alloc.specs.Looks.{IsBegun, IsPicking, IsFailing, IsLoading, was_active}
use Rattle.pool_alloc.specs.Walks.{Walks, begins, picks, fails, loads, IsLookedAt}
use Rattle.pool_alloc.specs.Places.{IsOn, IsFull, each_failed}
use Rattle.pool_alloc.specs.Allocs.{GrantNothing, IsBroken, grants}
use Rattle.pool_alloc.specs.Cuts.{IsCutLook, IsCutOn}
use Rattle.pool_alloc.specs.declared.looks.Cut.{Cut}
use Rattle.pool_alloc.specs.declared.looks.Cut.TheVariants.{Late, Device, Damaged, Suspended, Memory, Unposted}

-- a metaslab at which a look comes next is one of the class
pub look_in_class : (p : Plan) (steps : List Step) (id : MsId) → AreSteps p steps → IsNext p steps (Look id) → IsMetaslab p id
look_in_class p steps id are next = of_class p (steps ++ look_failed id ∷ []) (steps_push p steps (look_failed id) are next) steps (look_failed id) [] refl

pub looks : (next : Next) (id : MsId) → next ≡ Look id → IsLook next
looks next id is = subst IsLook (sym is) tt

-- a pick gives a metaslab of its vdev
pick_of : (p : Plan) (next : Next) (v : ℕ) (start : Start) (picked : Option Picked) → next ≡ Pick v start → IfSome picked (λ x. IsIn p.vdevs (record { vdev = v; index = x.index })) → IsPickOf p next (got_of picked)
pick_of p next v start None is within = subst (λ (n : Next). IsPickOf p n None) (sym is) tt
pick_of p next v start (Some x) is within = subst (λ (n : Next). IsPickOf p n (Some (record { index = x.index; weight = x.weight }))) (sym is) within.index

pub pick_given : (p : Plan) (next : Next) (v : ℕ) (start : Start) (picked : Option Picked) (got : Option Got) {vdevs : List VdevRow} {class : Class} {rotor : ℕ} {earlier : List Dva} → p ≡ plan_of vdevs class rotor earlier → next ≡ Pick v start
    → got ≡ got_of picked → IfSome picked (λ x. IsIn vdevs (record { vdev = v; index = x.index })) → IsPickOf p next got
pick_given p next v start picked got {vdevs} so is same within =
    subst (λ (g : Option Got). IsPickOf p next g) (sym same)
    (pick_of p next v start picked is (subst (λ (x : Plan). IfSome picked (λ y. IsIn x.vdevs (record { vdev = v; index = y.index }))) (sym so) within))

-- the walk was told of it
pub told_pick : (old new : WalkState) (steps : List Step) (pick : Picking) (got : Option Got) (active : Bool) → WasTold old steps → asked old ≡ Pick pick.vdev pick.start → got ≡ pick.got → active ≡ pick.was_active
    → IsToldPick old new got active → WasTold new (steps ++ pick_gave pick ∷ [])
told_pick old new steps pick got active told is same so tells =
    subst (λ (b : Bool). WasTold new (steps ++ pick_gave (record { vdev = pick.vdev; start = pick.start; got = pick.got; was_active = b }) ∷ [])) so
    (subst (λ (x : Option Got). WasTold new (steps ++ pick_gave (record { vdev = pick.vdev; start = pick.start; got = x; was_active = active }) ∷ [])) same (tells steps pick.vdev pick.start told is))

module _ (a : Ask) (earlier : List Dva) (class : Class) (rotor : ℕ) where
  -- the rotor was asked, and the walk from there was told these steps
  abbrev pub Walked : List Step → Ground → List LaneEvent → Type 0
  Walked steps = Then (IsBegun class (Some rotor)) (λ g es. Walks a (kind_of earlier) (plan_of g.vdevs class rotor earlier) g steps es)

  module _ (g : Ground) (steps : List Step) (es fs : List LaneEvent) (w : Walked steps g es) where
    behind : es ++ fs ≡ w.one ++ (w.two ++ fs)
    behind = ap (λ (l : List LaneEvent). l ++ fs) w.whole ∙ append_assoc w.one w.two fs

    pub walked_pick : (pick : Picking) → IsNext (plan_of g.vdevs class rotor earlier) steps (Pick pick.vdev pick.start) → IsPicking a (kind_of earlier) pick g fs → Walked (steps ++ pick_gave pick ∷ []) g (es ++ fs)
    walked_pick pick next is = record { one = w.one; two = w.two ++ fs; whole = behind; first = w.first; second = picks steps w.two fs pick w.second next is }

    pub walked_fail : (id : MsId) → IsNext (plan_of g.vdevs class rotor earlier) steps (Look id) → IsFailing a id g fs → Walked (steps ++ look_failed id ∷ []) g (es ++ fs)
    walked_fail id next is = record { one = w.one; two = w.two ++ fs; whole = behind; first = w.first; second = fails steps w.two fs id w.second next is }

    pub walked_load : (id : MsId) → IsNext (plan_of g.vdevs class rotor earlier) steps (Look id) → IsLoading a id g fs → Walked steps g (es ++ fs)
    walked_load id next is = record { one = w.one; two = w.two ++ fs; whole = behind; first = w.first; second = loads steps w.two fs id w.second next is }

    -- the walk ends with a look
    pub walked_look : (id : MsId) (Last : Ground → List LaneEvent → Type 0) → IsNext (plan_of g.vdevs class rotor earlier) steps (Look id) → Last g fs
        → IsOn earlier class (λ p. IsLookedAt a (kind_of earlier) p id Last) g (es ++ fs)
    walked_look id Last next last = record {
      rotor = rotor;
      turns = record {
        one = w.one;
        two = w.two ++ fs;
        whole = behind;
        first = w.first;
        second = record { steps = steps; next = next; turns = record { one = w.two; two = fs; whole = refl; first = w.second; second = last } };
      };
    }

    -- or at a step for which memory ran out
    pub walked_break : GrantNothing g fs → length fs ≤ 3 → IsOn earlier class (IsBroken a (kind_of earlier)) g (es ++ fs)
    walked_break quiet short = record {
      rotor = rotor;
      turns = record {
        one = w.one;
        two = w.two ++ fs;
        whole = behind;
        first = w.first;
        second = record { steps = steps; turns = record { one = w.two; two = fs; whole = refl; first = w.second; second = (quiet, short) } };
      };
    }

    pub walked_cut : (id : MsId) (cut : Cut) → IsNext (plan_of g.vdevs class rotor earlier) steps (Look id) → IsCutLook a id cut g fs → IsCutOn a earlier (IsOn earlier class) cut g (es ++ fs)
    walked_cut id (Late group collected) next line = (id, walked_look id _ next line)
    walked_cut id (Device before after) next line = (id, walked_look id _ next line)
    walked_cut id (Damaged at damage) next line = (id, walked_look id _ next line)
    walked_cut id (Suspended first) next line = (id, walked_look id _ next line)
    walked_cut id Memory next line = walked_break line.0 line.1
    walked_cut id (Unposted dva) next line = (id, (line.0, (line.1.0, walked_look id _ next line.1.1)))

  pub walked_none : (g : Ground) (es : List LaneEvent) → IsBegun class (Some rotor) g es → Walked [] g es
  walked_none g es is = record { one = es; two = []; whole = sym (append-nil es); first = is; second = begins }

  pub walked_full : (g : Ground) (steps : List Step) (es : List LaneEvent) (looked : ℕ) → Walked steps g es → IsNext (plan_of g.vdevs class rotor earlier) steps Done → looked ≡ length (failed steps)
      → IsFull a earlier class g es looked
  walked_full g steps es looked w next is = each_failed looked (record {
    rotor = rotor;
    turns = record { one = w.one; two = w.two; whole = w.whole; first = w.first; second = record { steps = steps; walks = w.second; ends = next; counts = is } };
  })

-- a pick that was made, and one for which memory ran out
pub picking : {E : Type 0} (a : Ask) (kind of : Kind) (vdev bytes held : ℕ) (start : Start) (result : Result (Option Picked) E) (picked : Option Picked) (g : Ground) (es : List LaneEvent) → kind ≡ of → held ≡ a.lane
    → result ≡ Ok picked → (count : ℕ) → AreUnitsOn g.vdevs vdev a.size count → bytes ≡ bytes_on g.vdevs vdev count
    → AtClass (place_for g.vdevs vdev) (PickAnswer held kind vdev bytes start result) g es
    → IsPicking a of (record { vdev = vdev; start = start; got = got_of picked; was_active = was_active picked }) g es
picking a kind of vdev bytes held start result picked g es same lane is count units size x = record {
  count = count;
  units = units;
  picked = picked;
  got_is = refl;
  was_is = refl;
  turn =
      subst (λ (n : ℕ). AtClass (place_for g.vdevs vdev) (IsNotedPick a.lane of vdev n start picked) g es) size
      (subst (λ (n : ℕ). AtClass (place_for g.vdevs vdev) (IsNotedPick n of vdev bytes start picked) g es) lane
      (subst (λ (k : Kind). AtClass (place_for g.vdevs vdev) (IsNotedPick held k vdev bytes start picked) g es) same
      (subst (λ (r : Result (Option Picked) _). AtClass (place_for g.vdevs vdev) (PickAnswer held kind vdev bytes start r) g es) is x)));
}

pub pick_quiet : (place : ℕ) (Answer : ClassState → Option LaneNote → Type 0) (g : Ground) (es : List LaneEvent) → AtClass place Answer g es → GrantNothing g es × (length es ≤ 3)
pick_quiet place Answer g es x = (subst (GrantNothing g) (sym x.is) (All-cons (λ (e : LaneEvent). grants e ≡ false) _ [] refl (All-nil (λ (e : LaneEvent). grants e ≡ false))), omega (arith, ap length x.is))
