-- The value of a walk as contracts see it, and what it was told.
use Rattle.std.specs.Prelude.{◌≡◌, ℕ, ◌+◌, ◌<◌, nat_lt, Bool, true, false, if◌then◌else◌, Option, Some, None, List, length, slice_get, slice_index_or, slice_set, MatchOption, ⊤, [], ◌∷◌, ◌++◌}
use Rattle.std.specs.List.{sum_by}
use Rattle.zms_units.specs.declared.places.MsId.{MsId}
use Rattle.vdev_map.specs.Numbers.{row_at, number_of}
use Rattle.ms_model.specs.declared.notes.Got.{Got}
use Rattle.ms_model.specs.declared.notes.Start.{Start}
use Rattle.copy_walk.specs.Plans.{Plan, IsMetaslab}
use Rattle.copy_walk.specs.Steps.{Step, look_failed, pick_gave, given, next_start, start_from, is_done, failed, has_failed}
use Rattle.copy_walk.specs.Nexts.{AreSteps}
use Rattle.copy_walk.specs.declared.next.Next.{Next}
use Rattle.copy_walk.specs.declared.next.Next.TheVariants.{Pick, Look, Done}
use Rattle.copy_walk.specs.declared.route.Stop.{Stop}

-- the plan; its vdevs in order, and the place of the one at hand, with the start of its next pick and what is to be looked at; where the last round stands; and the metaslabs at which looks failed, by number
pub record WalkState : Type 0 where
  pub plan : Plan
  pub stops : List Stop
  pub place : ℕ
  pub start : Start
  pub look : Option ℕ
  pub round : ℕ
  pub index : ℕ
  pub marks : List Bool

abbrev pub metaslab_of : Stop → ℕ → MsId
metaslab_of stop index = record { vdev = stop.vdev; index = index }

-- what is asked for on the vdev at hand, and in the last round
abbrev pub asked_at : Stop → Start → Option ℕ → Next
asked_at stop start None = Pick stop.vdev start
asked_at stop start (Some index) = Look (metaslab_of stop index)

abbrev pub asked_in_round : Option Stop → ℕ → Next
asked_in_round None index = Done
asked_in_round (Some stop) index = Look (metaslab_of stop index)

abbrev pub asked_by : Option Stop → Start → Option ℕ → Next → Next
asked_by None start look in_round = in_round
asked_by (Some stop) start look in_round = asked_at stop start look

-- what the walk asks for
abbrev pub asked : WalkState → Next
asked w = asked_by (slice_get w.stops w.place) w.start w.look (asked_in_round (slice_get w.stops w.round) w.index)

-- it asks for a pick, which may give this
abbrev pub IsPickOf : Plan → Next → Option Got → Type 0
IsPickOf p (Pick v start) got = MatchOption got ⊤ (λ g. g.index < (row_at p.vdevs v).metaslabs)
IsPickOf p (Look id) got = ⊥
IsPickOf p Done got = ⊥

-- it asks for a look
abbrev pub IsLook : Next → Type 0
IsLook (Pick v start) = ⊥
IsLook (Look id) = ⊤
IsLook Done = ⊥

-- the number of the metaslab at which it asks for a look
abbrev pub look_number : Option Stop → Option ℕ → Option Stop → ℕ → ℕ
look_number None look None index = 0
look_number None look (Some there) index = there.first + index
look_number (Some here) None there index = 0
look_number (Some here) (Some i) there index = here.first + i

-- what is to be looked at on a vdev
abbrev pub looked_at : Option Stop → Option ℕ → Option MsId
looked_at None look = None
looked_at (Some stop) None = None
looked_at (Some stop) (Some index) = Some (metaslab_of stop index)

-- is the metaslab of a number marked, and how many are?
abbrev pub is_marked : List Bool → ℕ → Bool
is_marked marks n = slice_index_or marks n false

abbrev pub marked : List Bool → ℕ
marked marks = sum_by (λ mark. if mark then 1 else 0) marks

-- a walk behind a pick that gave this
abbrev pub place_after : ℕ → Option Got → ℕ
place_after place None = place + 1
place_after place (Some got) = place

abbrev pub look_of : Option Got → Option ℕ
look_of None = None
look_of (Some got) = Some got.index

abbrev pub after_pick : WalkState → Option Got → Bool → WalkState
after_pick w got was_active = record w { place = place_after w.place got; start = start_from w.start was_active got; look = look_of got }

-- and behind a look that failed, with its metaslab marked and the last round at another place
abbrev pub after_failure : WalkState → ℕ → ℕ → ℕ → WalkState
after_failure w number round index = record w { look = None; round = round; index = index; marks = slice_set w.marks number true }

-- the walk was told these steps: each was what came next, and what the walk keeps is what they say
pub record WasTold (w : WalkState) (steps : List Step) : Type 0 where
  pub each : AreSteps w.plan steps
  pub done : (k : ℕ) (s : Stop) → slice_get w.stops k ≡ Some s → is_done steps s.vdev ≡ nat_lt k w.place
  pub start : w.start ≡ next_start steps
  pub look : given steps ≡ looked_at (slice_get w.stops w.place) w.look
  pub marks : (id : MsId) → IsMetaslab w.plan id → has_failed steps id ≡ is_marked w.marks (number_of w.plan.vdevs id)
  pub count : length (failed steps) ≡ marked w.marks

-- behind the steps that a walk was told it was told the pick that it asked for, with what that gave
abbrev pub IsToldPick : WalkState → WalkState → Option Got → Bool → Type 0
IsToldPick old new got was_active = (steps : List Step) (v : ℕ) (start : Start) → WasTold old steps → asked old ≡ Pick v start
    → WasTold new (steps ++ pick_gave (record { vdev = v; start = start; got = got; was_active = was_active }) ∷ [])

-- or that the look that it asked for failed
abbrev pub IsToldFailure : WalkState → WalkState → Type 0
IsToldFailure old new = (steps : List Step) (id : MsId) → WasTold old steps → asked old ≡ Look id → WasTold new (steps ++ look_failed id ∷ [])
