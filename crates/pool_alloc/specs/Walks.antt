-- What an allocation did at the metaslabs of one class for one copy, by the steps of its walk.
use Rattle.std.specs.Prelude.{◌≡◌, ℕ, List, [], ◌∷◌, ◌++◌, length}
use Rattle.zms_units.specs.declared.segments.Seg.{Seg}
use Rattle.zms_units.specs.declared.places.MsId.{MsId}
use Rattle.ms_model.specs.declared.notes.Kind.{Kind}
use Rattle.copy_walk.specs.Plans.{Plan}
use Rattle.copy_walk.specs.Steps.{Step, Picking, pick_gave, look_failed, failed}
use Rattle.copy_walk.specs.Nexts.{IsNext}
use Rattle.copy_walk.specs.declared.next.Next.TheVariants.{Pick, Look, Done}
use Rattle.lane_passes.specs.Lanes.{LaneEvent, Ground}
use Rattle.lane_passes.specs.Turns.{Then}
use Rattle.pool_alloc.specs.Asks.{Ask}
use Rattle.pool_alloc.specs.Looks.{IsPicking, IsGranting, IsFailing, IsLoading}

-- each event is of what came next by the rules of the walk, and no other: a pick, a look that failed, or a load before it is looked again
pub data Walks (a : Ask) (kind : Kind) (p : Plan) (g : Ground) : List Step → List LaneEvent → Type 0 where
  begins : Walks a kind p g [] []
  picks : (steps : List Step) (es fs : List LaneEvent) (pick : Picking) → Walks a kind p g steps es → IsNext p steps (Pick pick.vdev pick.start) → IsPicking a kind pick g fs
      → Walks a kind p g (steps ++ pick_gave pick ∷ []) (es ++ fs)
  fails : (steps : List Step) (es fs : List LaneEvent) (id : MsId) → Walks a kind p g steps es → IsNext p steps (Look id) → IsFailing a id g fs
      → Walks a kind p g (steps ++ look_failed id ∷ []) (es ++ fs)
  loads : (steps : List Step) (es fs : List LaneEvent) (id : MsId) → Walks a kind p g steps es → IsNext p steps (Look id) → IsLoading a id g fs → Walks a kind p g steps (es ++ fs)

-- the walk came to a look at a metaslab, which went so
pub record IsLookedAt (a : Ask) (kind : Kind) (p : Plan) (id : MsId) (Last : Ground → List LaneEvent → Type 0) (g : Ground) (es : List LaneEvent) : Type 0 where
  pub steps : List Step
  pub next : IsNext p steps (Look id)
  pub turns : Then (λ g es. Walks a kind p g steps es) Last g es

-- the copy was placed in a metaslab's segment
abbrev pub IsPlacedAt : Ask → Kind → MsId → Seg → Plan → Ground → List LaneEvent → Type 0
IsPlacedAt a kind id seg p = IsLookedAt a kind p id (IsGranting a id seg)

-- each metaslab of the class failed, and so many are they
pub record IsFullBy (a : Ask) (kind : Kind) (looked : ℕ) (p : Plan) (g : Ground) (es : List LaneEvent) : Type 0 where
  pub steps : List Step
  pub walks : Walks a kind p g steps es
  pub ends : IsNext p steps Done
  pub counts : looked ≡ length (failed steps)
