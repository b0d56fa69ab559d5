-- What an allocation does next.
use Rattle.std.specs.Prelude.{◌≡◌, ℕ, ◌<◌, ◌⊎◌, true, false, Some, None, List, ◌∷◌, ◌++◌, MatchOption, ⊤}
use Rattle.zms_units.specs.declared.places.MsId.{MsId}
use Rattle.vdev_map.specs.Numbers.{row_at}
use Rattle.ms_model.specs.declared.notes.Start.{Start}
use Rattle.copy_walk.specs.Plans.{Plan, IsVdev, IsMetaslab, ComesBefore, StandsBefore}
use Rattle.copy_walk.specs.Steps.{Step, pick_gave, look_failed, given, next_start, is_done, has_failed}
use Rattle.copy_walk.specs.declared.next.Next.{Next}
use Rattle.copy_walk.specs.declared.next.Next.TheVariants.{Pick, Look, Done}

-- the vdev at hand: the first one of the class that is not done
pub record IsAtHand (p : Plan) (steps : List Step) (v : ℕ) : Type 0 where
  pub is : IsVdev p v
  pub not_done : is_done steps v ≡ false
  pub first : (u : ℕ) → IsVdev p u → ComesBefore p u v → is_done steps u ≡ true

-- a pick is on the vdev at hand, once what was given has been looked at
pub record IsPick (p : Plan) (steps : List Step) (v : ℕ) (start : Start) : Type 0 where
  pub at_hand : IsAtHand p steps v
  pub looked_at_all : given steps ≡ None
  pub begins : start ≡ next_start steps

-- the last round comes once each vdev of the class is done
pub record IsLastRound (p : Plan) (steps : List Step) : Type 0 where
  pub done : (v : ℕ) → IsVdev p v → is_done steps v ≡ true
  pub looked_at_all : given steps ≡ None

-- a look of the last round is at the first metaslab of the class at which none failed
pub record IsLastLook (p : Plan) (steps : List Step) (id : MsId) : Type 0 where
  pub round : IsLastRound p steps
  pub is : IsMetaslab p id
  pub not_failed : has_failed steps id ≡ false
  pub first : (other : MsId) → IsMetaslab p other → StandsBefore p other id → has_failed steps other ≡ true

-- and the copy has no place where a look at each metaslab of the class failed
pub record IsEnd (p : Plan) (steps : List Step) : Type 0 where
  pub round : IsLastRound p steps
  pub all : (id : MsId) → IsMetaslab p id → has_failed steps id ≡ true

-- what comes next: a look at what was given, a pick, a look of the last round, or the end
abbrev pub IsNext : Plan → List Step → Next → Type 0
IsNext p steps (Pick v start) = IsPick p steps v start
IsNext p steps (Look id) = (given steps ≡ Some id) ⊎ IsLastLook p steps id
IsNext p steps Done = IsEnd p steps

-- a step may be told behind others where it is what came next, and a pick gives a metaslab of its vdev
abbrev pub MayTell : Plan → List Step → Step → Type 0
MayTell p steps (pick_gave pick) = IsPick p steps pick.vdev pick.start × MatchOption pick.got ⊤ (λ got. got.index < (row_at p.vdevs pick.vdev).metaslabs)
MayTell p steps (look_failed id) = IsNext p steps (Look id)

-- each step may be told behind those before it
abbrev pub AreSteps : Plan → List Step → Type 0
AreSteps p steps = (before : List Step) (step : Step) (rest : List Step) → before ++ (step ∷ rest) ≡ steps → MayTell p before step
