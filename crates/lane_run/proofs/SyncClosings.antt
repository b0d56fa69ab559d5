-- A sync closes at most one group.
use Rattle.std.proofs.Common.{ℕ, Bool, List, refl, arith, Result, Ok, Err}
use Rattle.zms_units.specs.declared.segments.Group.{Group}
use Rattle.zms_units.specs.declared.places.MsId.{MsId}
use Rattle.turn_cell.specs.Lanes.{Step}
use Rattle.lane_passes.specs.Lanes.{LaneEvent, Ground}
use Rattle.pool_keeper.specs.Notes.{KeeperNoted}
use Rattle.pool_keeper.specs.Syncs.{IsWeighedOnce, AreWeighed, AreWeighedInPart, ClosedLine, TryLine, SyncLine, not_loaded, loaded, none, more, done, in_part, failed, closed, no_memory, busy, suspended, at_once, behind, cut}
use Rattle.pool_keeper.specs.declared.faults.SyncFault.{SyncFault}
use Rattle.lane_run.specs.Lines.{AreSeenSettled, SeenLine, none as none_seen, more as more_seen}
use Rattle.lane_run.proofs.Closings.{IsCalm, IsOneAtMost, calm_join, calm_metaslab, calm_class, calm_gate, calm_then, one_gate, one_then, then_one}

module _ (g : Ground) where
  calm_weighed_once : (lane : ℕ) (id : MsId) (es : List LaneEvent) → IsWeighedOnce lane id g es → IsCalm es
  calm_weighed_once lane id es (not_loaded counts weight x) = calm_metaslab g _ _ es x
  calm_weighed_once lane id es (loaded counts weight x) = calm_then g _ _ es (λ fs y. calm_metaslab g _ _ fs y) (λ fs y. calm_class g _ _ fs y) x

  calm_weighed : (lane number : ℕ) (es : List LaneEvent) → AreWeighed lane g number es → IsCalm es
  calm_weighed lane _ _ none = refl
  calm_weighed lane _ _ (more number id es fs x inside place y) = calm_join es fs (calm_weighed lane number es x) (calm_weighed_once lane id fs y)

  calm_in_part : (lane : ℕ) (es : List LaneEvent) → AreWeighedInPart lane g es → IsCalm es
  calm_in_part lane es x =
      calm_then g _ _ es (λ fs y. calm_weighed lane x.few fs y) (λ fs y. calm_then g _ _ fs (λ hs z. calm_metaslab g _ _ hs z) (λ hs z. calm_class g _ _ hs z) y) x.turns

  calm_closed : (lane : ℕ) (group : Group) (t : Step KeeperNoted) (result : Result Group SyncFault) (es : List LaneEvent) → ClosedLine lane group g t result es → IsCalm es
  calm_closed lane group t _ _ (done es noted x) = calm_weighed lane _ es x
  calm_closed lane group t _ _ (in_part es noted x) = calm_in_part lane es x
  calm_closed lane group t _ _ (failed fault noted) = refl

  one_try : (lane : ℕ) (again : Bool) (result : Result Group SyncFault) (es : List LaneEvent) (ks : List (Step KeeperNoted)) → TryLine lane again g result es ks → IsOneAtMost es
  one_try lane again _ _ _ (closed group result es fs t at x) = one_then es fs (one_gate g _ es at) (calm_closed lane group t result fs x)
  one_try lane again _ _ _ (no_memory es at) = one_gate g _ es at
  one_try lane again _ _ _ (busy many es is at) = one_gate g _ es at

  pub one_sync : (lane : ℕ) (result : Result Group SyncFault) (es : List LaneEvent) (ks : List (Step KeeperNoted)) → SyncLine lane g result es ks → IsOneAtMost es
  one_sync lane _ _ _ (suspended first s noted) = omega arith
  one_sync lane _ _ _ (at_once result es s steps quiet x) = one_try lane _ result es steps x
  one_sync lane _ _ _ (behind group many result es fs s t steps quiet at below noted x) = then_one es fs (calm_gate g _ es (λ h note z. z.0) at) (one_try lane _ result fs steps x)
  one_sync lane _ _ _ (cut many fault es s t quiet at noted) = one_gate g _ es at

  calm_all_seen : (group number : ℕ) (es : List LaneEvent) → AreSeenSettled group g number es → IsCalm es
  calm_all_seen group _ _ none_seen = refl
  calm_all_seen group _ _ (more_seen number es fs x y) = calm_join es fs (calm_all_seen group number es x) (calm_metaslab g _ _ fs y)

  pub calm_seen : (result : Result Group SyncFault) (es : List LaneEvent) → SeenLine result g es → IsCalm es
  calm_seen (Ok group) es x = calm_then g _ _ es (λ fs y. calm_all_seen group.0 _ fs y) (λ fs y. calm_gate g _ fs (λ h note z. z.0) y) x
  calm_seen (Err fault) es x = rw x refl
