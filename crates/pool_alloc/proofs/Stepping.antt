-- One step of the walk over a class, behind those before it.
use Rattle.std.proofs.Common.{◌≡◌, ℕ, ◌<◌, List, [], ◌∷◌, ◌++◌, length, ap, subst, Option, Result, Ok, Err}
use Rattle.zms_units.specs.declared.blocks.Dva.{Dva}
use Rattle.zms_units.specs.declared.segments.Group.{Group}
use Rattle.zms_units.specs.declared.places.MsId.{MsId}
use Rattle.zms_units.specs.declared.places.Class.{Class}
use Rattle.zms_units.specs.declared.places.VdevRow.{VdevRow}
use Rattle.vdev_map.specs.Numbers.{IsIn}
use Rattle.ms_model.specs.declared.notes.Start.{Start}
use Rattle.class_core.specs.Classes.{ClassState}
use Rattle.class_model.specs.Replay.{LaneNote}
use Rattle.copy_walk.specs.Plans.{Plan, plan_of}
use Rattle.copy_walk.specs.Steps.{Step, Picking, pick_gave, look_failed, failed}
use Rattle.copy_walk.specs.Nexts.{IsNext, AreSteps}
use Rattle.copy_walk.specs.declared.next.Next.{Next}
use Rattle.copy_walk.specs.declared.next.Next.TheVariants.{Pick, Look, Done}
use Rattle.ms_cell.specs.Turns.{Turns}
use Rattle.ms_cell.specs.declared.loader.LoadFault.{LoadFault}
use Rattle.lane_passes.specs.Lanes.{Ground, ground_of, Acted}
use Rattle.lane_passes.specs.Turns.{AtClass}
use Rattle.lane_passes.specs.declared.passes.LanePasses.{LanePasses}
use Rattle.lane_passes.proofs.Acting.{acted_as, acted_join}
use Rattle.pool_alloc.specs.Asks.{Ask, kind_of}
use Rattle.pool_alloc.specs.Looks.{IsPicking}
use Rattle.pool_alloc.specs.Cuts.{LookLine, ClassLine}
use Rattle.pool_alloc.specs.Loads.{CountsOne}
use Rattle.pool_alloc.specs.declared.looks.Cut.{Cut}
use Rattle.pool_alloc.specs.declared.looks.Cut.TheVariants.{Memory}
use Rattle.pool_alloc.specs.declared.looks.Looked.{Looked}
use Rattle.pool_alloc.specs.declared.looks.Looked.TheVariants.{Placed, Failed, Loaded}
use Rattle.pool_alloc.specs.declared.placing.Found.TheVariants.{Placed as PlacedCopy, Full}
use Rattle.pool_alloc.proofs.Walking.{Walked, walked_pick, walked_fail, walked_load, walked_look, walked_break, walked_cut, walked_full, pick_quiet, look_in_class}

-- a pick is on a vdev of the pool
pub pick_vdev : (plan : Plan) (steps : List Step) (next : Next) (v : ℕ) (start : Start) → IsNext plan steps next → next ≡ Pick v start → {vdevs : List VdevRow} {class : Class} {rotor : ℕ} {earlier : List Dva}
    → plan ≡ plan_of vdevs class rotor earlier → v < length vdevs
pick_vdev plan steps next v start comes is so =
    subst (λ (x : Plan). v < length x.vdevs) so (subst (λ (n : Next). IsNext plan steps n) is comes).at_hand.is.0

-- and a look is at a metaslab of it
pub look_id : (plan : Plan) (steps : List Step) (next : Next) (id : MsId) → AreSteps plan steps → IsNext plan steps next → next ≡ Look id → {vdevs : List VdevRow} {class : Class} {rotor : ℕ} {earlier : List Dva}
    → plan ≡ plan_of vdevs class rotor earlier → IsIn vdevs id
look_id plan steps next id each comes is so =
    let there = look_in_class plan steps id each (subst (λ (n : Next). IsNext plan steps n) is comes) in
    subst (λ (x : Plan). IsIn x.vdevs id) so (record { vdev = there.vdev.0; index = there.index })

-- what is counted of a load behind steps that counted none
pub counts_along : (fault : Option LoadFault) (count : ℕ) (last : Option LoadFault) (mid : ℕ) (between : Option LoadFault) (count_now : ℕ) (last_now : Option LoadFault) → mid ≡ count → between ≡ last
    → CountsOne fault mid between count_now last_now → CountsOne fault count last count_now last_now
counts_along fault count last mid between count_now last_now a b is =
    subst (λ (n : ℕ). CountsOne fault n last count_now last_now) a (subst (λ (l : Option LoadFault). CountsOne fault mid l count_now last_now) b is)

abbrev ask_of : Group → ℕ → ℕ → Ask
ask_of group size lane = record { lane = lane; group = group; size = size }

pub ask_as : (group : Group) (size held lane : ℕ) → held ≡ lane → ask_of group size held ≡ ask_of group size lane
ask_as group size held lane is = ap (ask_of group size) is

-- what a look answered, as the lane asked
pub look_as : {R : Type 0} (t : Turns) (held a : Ask) (id : MsId) (result x : Result Looked Cut) (p q : LanePasses R) → held ≡ a → result ≡ x → Acted t (LookLine held id result) p q → Acted t (LookLine a id x) p q
look_as t held a id result x p q same is w =
    subst (λ (b : Ask). Acted t (LookLine b id x) p q) same (subst (λ (y : Result Looked Cut). Acted t (LookLine held id y) p q) is w)

-- what a step comes to, behind a walk that was told these steps
module _ {R : Type 0} (t : Turns) (a : Ask) (earlier : List Dva) (class : Class) (rotor : ℕ) (p q r : LanePasses R) (steps : List Step) (plan : Plan) (next : Next) (is_plan : plan ≡ plan_of t.vdevs class rotor earlier)
    (comes : IsNext plan steps next) (w : Acted t (Walked a earlier class rotor steps) p q) where
  comes_as : (of : Next) → next ≡ of → IsNext (plan_of t.vdevs class rotor earlier) steps of
  comes_as of is = subst (λ (n : Next). IsNext (plan_of t.vdevs class rotor earlier) steps n) is (subst (λ (x : Plan). IsNext x steps next) is_plan comes)

  pub goes_pick : (pick : Picking) → next ≡ Pick pick.vdev pick.start → Acted t (IsPicking a (kind_of earlier) pick) q r → Acted t (Walked a earlier class rotor (steps ++ pick_gave pick ∷ [])) p r
  goes_pick pick is x = acted_join t _ _ _ p q r (λ es fs one two. walked_pick a earlier class rotor (ground_of t p) steps es fs one pick (comes_as (Pick pick.vdev pick.start) is) two) w x

  pub goes_fail : (id : MsId) → next ≡ Look id → Acted t (LookLine a id (Ok Failed)) q r → Acted t (Walked a earlier class rotor (steps ++ look_failed id ∷ [])) p r
  goes_fail id is x = acted_join t _ _ _ p q r (λ es fs one two. walked_fail a earlier class rotor (ground_of t p) steps es fs one id (comes_as (Look id) is) two) w x

  pub goes_load : (id : MsId) → next ≡ Look id → Acted t (LookLine a id (Ok Loaded)) q r → Acted t (Walked a earlier class rotor steps) p r
  goes_load id is x = acted_join t _ _ _ p q r (λ es fs one two. walked_load a earlier class rotor (ground_of t p) steps es fs one id (comes_as (Look id) is) two) w x

  pub ends_placed : (id : MsId) (dva : Dva) → next ≡ Look id → Acted t (LookLine a id (Ok (Placed dva))) q r → Acted t (ClassLine a earlier class (Ok (PlacedCopy dva))) p r
  ends_placed id dva is x =
      acted_join t _ _ _ p q r (λ es fs one two. (id, (two.0, (two.1.0, walked_look a earlier class rotor (ground_of t p) steps es fs one id _ (comes_as (Look id) is) two.1.1)))) w x

  pub ends_cut : (id : MsId) (cut : Cut) → next ≡ Look id → Acted t (LookLine a id (Err cut)) q r → Acted t (ClassLine a earlier class (Err cut)) p r
  ends_cut id cut is x = acted_join t _ _ _ p q r (λ es fs one two. walked_cut a earlier class rotor (ground_of t p) steps es fs one id cut (comes_as (Look id) is) two) w x

  -- memory ran out at a pick
  pub ends_broken : (place : Ground → ℕ) (Answer : ClassState → Option LaneNote → Type 0) → Acted t (λ g. AtClass (place g) Answer g) q r → Acted t (ClassLine a earlier class (Err Memory)) p r
  ends_broken place Answer x =
      acted_join t _ _ _ p q r
      (λ es fs one two.
      let quiet = pick_quiet (place (ground_of t p)) Answer (ground_of t p) fs two in
      walked_break a earlier class rotor (ground_of t p) steps es fs one quiet.0 quiet.1) w x

  pub ends_full : (looked : ℕ) → next ≡ Done → looked ≡ length (failed steps) → Acted t (ClassLine a earlier class (Ok (Full looked))) p q
  ends_full looked is count = acted_as t _ _ p q (λ es one. walked_full a earlier class rotor (ground_of t p) steps es looked one (comes_as Done is) count) w
