-- A free closes no group.
use Rattle.std.proofs.Common.{ℕ, List, refl, Result, Ok, Err}
use Rattle.zms_units.specs.declared.segments.Group.{Group}
use Rattle.zms_units.specs.declared.segments.Seg.{Seg}
use Rattle.zms_units.specs.declared.places.MsId.{MsId}
use Rattle.lane_passes.specs.Lanes.{LaneEvent, Ground}
use Rattle.pool_alloc.specs.Frees.{Place, AreUnloaded, IsFreeAt, AreFreed, IsRefused, IsRefusal, FreeLine, none, more, none as none_freed, more as more_freed}
use Rattle.pool_alloc.specs.declared.answers.FreeFault.{FreeFault}
use Rattle.pool_alloc.specs.declared.answers.FreeFault.TheVariants.{NoSuch, BadSeg, NotLive, Late, Device, Damaged, Suspended, Memory}
use Rattle.lane_run.proofs.Closings.{IsCalm, calm_join, calm_metaslab, calm_then}
use Rattle.lane_run.proofs.AllocClosings.{calm_holding}

module _ (g : Ground) where
  calm_unloaded : (group : Group) (id : MsId) (es : List LaneEvent) → AreUnloaded group id g es → IsCalm es
  calm_unloaded group id _ none = refl
  calm_unloaded group id _ (more es fs x y) = calm_join es fs (calm_unloaded group id es x) (calm_metaslab g _ _ fs y)

  calm_free_at : (lane : ℕ) (group : Group) (place : Place) (Last : MsId → Seg → Ground → List LaneEvent → Type 0) (es : List LaneEvent)
      → ((id : MsId) (seg : Seg) (fs : List LaneEvent) → Last id seg g fs → IsCalm fs) → IsFreeAt lane group place Last g es → IsCalm es
  calm_free_at lane group place Last es last x = calm_then g _ _ es (λ fs y. calm_unloaded group x.id fs y) (λ fs y. last x.id x.seg fs y) x.turns

  calm_freed : (lane : ℕ) (group : Group) (places : List Place) (es : List LaneEvent) → AreFreed lane group g places es → IsCalm es
  calm_freed lane group _ _ none_freed = refl
  calm_freed lane group _ _ (more_freed places place es fs x y) =
      calm_join es fs (calm_freed lane group places es x) (calm_free_at lane group place _ fs (λ id seg hs z. calm_metaslab g _ _ hs z) y)

  calm_refused : (lane : ℕ) (group : Group) (freed : ℕ) (place : Place) (fault : FreeFault) (es : List LaneEvent) → IsRefused lane group freed place fault g es → IsCalm es
  calm_refused lane group freed place NoSuch es x = rw x.1 refl
  calm_refused lane group freed place BadSeg es x = rw x.1 refl
  calm_refused lane group freed place (NotLive before vdev offset) es x = calm_free_at lane group place _ es (λ id seg hs z. calm_metaslab g _ _ hs z.turn) x.1
  calm_refused lane group freed place (Late asked collected) es x = calm_free_at lane group place _ es (λ id seg hs z. calm_metaslab g _ _ hs z) x
  calm_refused lane group freed place (Device before after) es x = calm_free_at lane group place _ es (λ id seg hs z. calm_metaslab g _ _ hs z) x
  calm_refused lane group freed place (Damaged id damage) es x = calm_free_at lane group place _ es (λ id seg hs z. calm_metaslab g _ _ hs z) x
  calm_refused lane group freed place (Suspended first) es x = calm_free_at lane group place _ es (λ id seg hs z. calm_metaslab g _ _ hs z) x
  calm_refused lane group freed place (Memory before) es x = calm_free_at lane group place _ es (λ id seg hs z. calm_metaslab g _ _ hs z) x.1

  calm_refusal : (lane : ℕ) (group : Group) (places : List Place) (fault : FreeFault) (es : List LaneEvent) → IsRefusal lane group places fault g es → IsCalm es
  calm_refusal lane group places fault es x = calm_then g _ _ es (λ fs y. calm_freed lane group x.freed fs y) (λ fs y. calm_refused lane group _ x.place fault fs y) x.turns

  pub calm_free : (lane : ℕ) (places : List Place) (result : Result Group FreeFault) (es : List LaneEvent) → FreeLine lane places result g es → IsCalm es
  calm_free lane places (Ok group) es x = calm_holding g group _ es (λ fs y. calm_freed lane group places fs y) x
  calm_free lane places (Err fault) es x = calm_holding g x.0 _ es (λ fs y. calm_refusal lane x.0 places fault fs y) x.1
