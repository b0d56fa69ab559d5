-- The seats of a prepared pool: each lane may run.
use Rattle.std.proofs.Common.{◌≡◌, ℕ, ◌+◌, List, sym, ap, ◌∙◌, subst, arith, Some}
use Rattle.std.specs.Prelude.{slice_get}
use Rattle.std.specs.List.{All}
use Rattle.std.proofs.lemmas.Option.{slice_get_within, get_or_from_slice_get}
use Rattle.zms_units.specs.Limits.{IsLane}
use Rattle.zms_units.specs.declared.segments.Seg.{Seg}
use Rattle.txg_gate.specs.Closings.{closings_of}
use Rattle.turn_cell.specs.Known.{Known, TableId}
use Rattle.turn_passes.specs.Parts.{IsFresh}
use Rattle.turn_passes.proofs.Pairs.{some_at}
use Rattle.turn_passes.proofs.Parts.{ready_fresh}
use Rattle.ms_cell.specs.Passes.{Seated as CellsSeated}
use Rattle.ms_cell.proofs.Gathering.{fresh_seated as cells_seated, rests_idle as cells_idle}
use Rattle.class_group.specs.Passes.{Seated as ClassesSeated}
use Rattle.class_group.proofs.Gathering.{fresh_seated as classes_seated, rests_idle as classes_idle}
use Rattle.meta_store.specs.Stores.{StoreState}
use Rattle.pool_keeper.specs.Keeper.{MayBegin, IsOf}
use Rattle.pool_keeper.specs.Notes.{KeeperNoted, keeper_right}
use Rattle.pool_keeper.specs.declared.keeper.Start.{Start}
use Rattle.range_tree.specs.declared.trees.RangeTrees.{RangeTrees}
use Rattle.pool_seats.specs.Joining.{AreIdleRest}
use Rattle.pool_seats.specs.Seats.{StartsWith, AreSeated, IsNewLane, IsPrepared}
use Rattle.pool_seats.specs.declared.opening.Prepared.{Prepared}
use Rattle.pool_seats.specs.declared.pool.Seat.{Seat}
use Rattle.pool_lanes.specs.Returning.{AreNumbered}
use Rattle.pool_lanes.specs.Running.{CanRun}

module _ {D : Type 0} (store : StoreState D) (bases : List (List Seg)) (lanes : ℕ) (p : Prepared) (prepared : IsPrepared store bases lanes p) where
  pub idle_rest : AreIdleRest p.pool p.rest
  idle_rest = record {
    cells = cells_idle (lanes + 1) p.pool.cells p.rest.cells prepared.rights.cells;
    classes = classes_idle (lanes + 1) p.pool.classes p.rest.classes prepared.rights.classes;
  }

  -- a keeper that began with the store and the passes is of the pool's cells
  pub is_of : (start : Start D RangeTrees) → start.store.value ≡ store → start.passes.value ≡ p.keeper → IsOf p.pool.cells start
  is_of start store_is passes_are =
      subst (λ (s : StoreState D). MayBegin p.pool.cells s start.passes.value) (sym store_is)
      (subst (λ q. MayBegin p.pool.cells store q) (sym passes_are) prepared.begins)

  module _ (turn : TableId) (first : Known KeeperNoted (Start D RangeTrees)) (starts : StartsWith store p.keeper first.fixed) (seats : List (Seat D)) (seated : AreSeated turn first p.lanes.items seats) where
    pub new_lane : (k : ℕ) (s : Seat D) → slice_get seats k ≡ Some s → IsNewLane (k + 1) p.pool p.rest s.passes
    new_lane k s e = prepared.new k s.passes (seated k s e).0

    pub numbered : AreNumbered seats
    numbered k s e = (new_lane k s e).lane_is

    can : IsLane lanes → (k : ℕ) (s : Seat D) → slice_get seats k ≡ Some s → CanRun p.pool turn s
    can some k s e =
        let new = new_lane k s e in
        let at = seated k s e in
        record {
          seated = record {
            lane = subst IsLane (sym new.lane_is) (omega arith, omega (arith, some, slice_get_within p.lanes.items k s.passes at.0, prepared.count));
            cells = subst (λ (n : ℕ). CellsSeated n p.pool.cells s.passes.cells) (sym new.lane_is) (cells_seated (k + 1) p.pool.cells s.passes.cells new.cells);
            classes = subst (λ (n : ℕ). ClassesSeated n p.pool.classes s.passes.classes) (sym new.lane_is) (classes_seated (k + 1) p.pool.classes s.passes.classes new.classes);
            one = prepared.one;
          };
          few = ap (closings_of s.passes.lane) new.cells.gate.seen;
          start = starts.start;
          is = at.1.1 ∙ starts.is;
          of = is_of starts.start starts.store_is starts.passes_are;
          ready = ready_fresh keeper_right s.passes.lane turn s.keeper (subst (λ (n : ℕ). IsFresh n turn s.keeper) (sym new.lane_is) at.1.0);
        }

    pub all_can : IsLane lanes → All (CanRun p.pool turn) seats
    all_can some k d lt = let s = some_at seats k lt in subst (CanRun p.pool turn) (sym (get_or_from_slice_get seats k s.0 d s.1)) (can some k s.0 s.1)
