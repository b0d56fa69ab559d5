-- What the definitions give: each law is the contract of a function of `laws`.
use Rattle.std.specs.Prelude.{◌≡◌, ℕ, ◌==◌, Bool, true, false, ◌↔◌, None, List, ◌∷◌, ◌++◌, length}
use Rattle.std.specs.List.{IsDistinct, list_any}
use Rattle.zms_units.specs.declared.places.MsId.{MsId}
use Rattle.ms_model.specs.declared.notes.Start.TheVariants.{Active}
use Rattle.copy_walk.specs.Plans.{Plan, IsVdev, IsMetaslab, IsPlan}
use Rattle.copy_walk.specs.Steps.{Picking, Step, pick_gave, look_failed, given, is_same, is_among, failed, has_failed}
use Rattle.copy_walk.specs.Nexts.{IsNext, AreSteps}
use Rattle.copy_walk.specs.declared.next.Next.{Next}
use Rattle.copy_walk.specs.declared.next.Next.TheVariants.{Look, Done}

-- one thing comes next
abbrev pub NextsAreOne : Type 0
NextsAreOne = (p : Plan) (steps : List Step) (a b : Next) → IsPlan p → IsNext p steps a → IsNext p steps b → a ≡ b

-- a step is on a vdev of the class, or at a metaslab of it
abbrev pub IsOfClass : Plan → Step → Type 0
IsOfClass p (pick_gave pick) = IsVdev p pick.vdev
IsOfClass p (look_failed id) = IsMetaslab p id

-- no step leaves the class
abbrev pub StepsStayInClass : Type 0
StepsStayInClass = (p : Plan) (steps before : List Step) (step : Step) (rest : List Step) → AreSteps p steps → before ++ (step ∷ rest) ≡ steps → IsOfClass p step

-- was there a pick on a vdev?
abbrev pub is_pick_on : ℕ → Step → Bool
is_pick_on v (pick_gave pick) = pick.vdev == v
is_pick_on v (look_failed id) = false

abbrev pub was_picked : List Step → ℕ → Bool
was_picked steps v = list_any (is_pick_on v) steps

-- the first pick on each vdev begins at the active metaslab
abbrev pub FirstPicksAreActive : Type 0
FirstPicksAreActive = (p : Plan) (steps before : List Step) (pick : Picking) (rest : List Step) → IsPlan p → AreSteps p steps → before ++ (pick_gave pick ∷ rest) ≡ steps
    → was_picked before pick.vdev ≡ false → pick.start ≡ Active

-- a look of the last round is at a metaslab at which none failed
abbrev pub LastLooksAreNew : Type 0
LastLooksAreNew = (p : Plan) (steps : List Step) (id : MsId) → IsNext p steps (Look id) → given steps ≡ None → has_failed steps id ≡ false

-- and at the end a look failed at each metaslab of the class
abbrev pub EndsMissNone : Type 0
EndsMissNone = (p : Plan) (steps : List Step) → IsNext p steps Done → (id : MsId) → IsMetaslab p id → has_failed steps id ≡ true

-- a list of the class's metaslabs, each once
pub record ListsClass (p : Plan) (ids : List MsId) : Type 0 where
  pub distinct : IsDistinct is_same ids
  pub all : (id : MsId) → (is_among ids id ≡ true) ↔ IsMetaslab p id

-- so that as many failed as the class has
abbrev pub EndsCountEach : Type 0
EndsCountEach = (p : Plan) (steps : List Step) (ids : List MsId) → AreSteps p steps → IsNext p steps Done → ListsClass p ids → length (failed steps) ≡ length ids
