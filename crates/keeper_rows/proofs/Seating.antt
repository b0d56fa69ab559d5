-- Lanes and a keeper at the turns of one pool.
use Rattle.std.proofs.Common.{◌≡◌, ℕ, sym, ap, ◌∙◌, subst, Some}
use Rattle.turn_cell.specs.Known.{Known, TableId}
use Rattle.turn_cell.specs.Lanes.{Ready}
use Rattle.turn_passes.specs.Parts.{IsFresh, IsRest}
use Rattle.turn_passes.proofs.Parts.{ready_fresh}
use Rattle.ms_cell.specs.Turns.{Turns}
use Rattle.ms_cell.specs.Passes.{Passes}
use Rattle.meta_store.specs.Stores.{StoreState}
use Rattle.pool_keeper.specs.Notes.{KeeperNoted, keeper_right}
use Rattle.pool_keeper.specs.Keeper.{MayBegin}
use Rattle.pool_keeper.specs.Serving.{Serves}
use Rattle.pool_keeper.specs.declared.keeper.Start.{Start}
use Rattle.pool_keeper.specs.declared.lane_keeper.LaneKeeper.{LaneKeeper}
use Rattle.keeper_rows.specs.Parts.{IsKeeperRest}

module _ {D R : Type 0} (t : Turns) (turn : TableId) where
  pub serves_fresh : (lane given : ℕ) (rest pass : Known KeeperNoted (Start D R)) (k : LaneKeeper D R) → IsKeeperRest lane t turn rest → IsFresh lane turn pass → pass.fixed ≡ rest.fixed → k.turn.now ≡ turn → k.pass ≡ pass → k.lane ≡ lane
      → given ≡ lane → Serves k given t
  serves_fresh lane given rest pass k has fresh fixed at is lane_is same =
      let ready : Ready keeper_right lane turn pass = ready_fresh keeper_right lane turn pass fresh in
      let there : Ready keeper_right lane k.turn.now k.pass = subst (λ x. Ready keeper_right lane x k.pass) (sym at) (subst (λ (x : Known KeeperNoted (Start D R)). Ready keeper_right lane turn x) (sym is) ready) in
      record {
        lane_is = lane_is ∙ sym same;
        start = has.start;
        is = ap (λ (x : Known KeeperNoted (Start D R)). x.fixed) is ∙ (fixed ∙ has.is);
        of = has.of;
        ready = subst (λ (n : ℕ). Ready keeper_right n k.turn.now k.pass) (sym same) there;
      }

  -- the rest of the rights of a keeper that began with this store and these passes
  pub keeper_begun : (right : ℕ) (store : StoreState D) (passes : Passes) (start : Start D R) (rest : Known KeeperNoted (Start D R)) → MayBegin t store passes → start.store.value ≡ store → start.passes.value ≡ passes → IsRest right turn rest
      → rest.fixed ≡ Some start → IsKeeperRest right t turn rest
  keeper_begun right store passes start rest may store_is passes_is has fixed = record {
    rest = has;
    start = start;
    is = fixed;
    of = subst (λ (x : Passes). MayBegin t start.store.value x) (sym passes_is) (subst (λ (x : StoreState D). MayBegin t x passes) (sym store_is) may);
  }
