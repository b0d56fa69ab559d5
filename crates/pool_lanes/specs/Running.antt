-- What each lane did between its seat and its end.
use Rattle.std.specs.Prelude.{◌≡◌, ℕ, Some, IfOk, List, length, slice_get}
use Rattle.std.specs.List.{All}
use Rattle.turn_cell.specs.Known.{TableId}
use Rattle.turn_cell.specs.Lanes.{Step, Ready, Went}
use Rattle.txg_gate.specs.Closings.{closings_of}
use Rattle.lane_passes.specs.Lanes.{LaneEvent, IsSeated, ground_of, Journey}
use Rattle.pool_keeper.specs.Keeper.{IsOf}
use Rattle.pool_keeper.specs.Notes.{KeeperNoted, keeper_right}
use Rattle.pool_keeper.specs.declared.keeper.Start.{Start}
use Rattle.cmd_text.specs.declared.script.Command.{Command}
use Rattle.lane_run.specs.Answers.{paired}
use Rattle.lane_run.specs.Lines.{Lines}
use Rattle.lane_run.specs.Runs.{commands_of}
use Rattle.pool_seats.specs.declared.pool.Pool.{Pool}
use Rattle.pool_seats.specs.declared.pool.Seat.{Seat}
use Rattle.pool_lanes.specs.declared.running.Ran.{Ran}
use Rattle.range_tree.specs.declared.trees.RangeTrees.{RangeTrees}

module _ {D : Type 0} where
  -- a lane that may begin: its passes are of this pool, it has closed nothing yet, and the keeper is of the pool's cells
  pub record CanRun (pool : Pool) (turn : TableId) (s : Seat D) : Type 0 where
    pub seated : IsSeated pool.cells pool.classes s.passes
    pub few : closings_of s.passes.lane s.passes.cells.gate.seen ≡ 0
    pub start : Start D RangeTrees
    pub is : s.keeper.fixed ≡ Some start
    pub of : IsOf pool.cells start
    pub ready : Ready keeper_right s.passes.lane turn s.keeper

  -- the lane took just these steps, in the pool and at the keeper, and each reply is as its line says
  pub record RanFrom (pool : Pool) (turn : TableId) (commands : List Command) (s : Seat D) (r : Ran D) : Type 0 where
    pub events : List LaneEvent
    pub steps : List (Step KeeperNoted)
    pub journey : Journey events s.passes r.seat.passes
    pub went : Went keeper_right s.passes.lane steps s.keeper r.seat.keeper
    pub seated : IsSeated pool.cells pool.classes r.seat.passes
    pub ready : Ready keeper_right s.passes.lane turn r.seat.keeper
    pub each : IfOk r.replies (λ replies. length replies.items ≡ length (commands_of s.passes.lane commands))
    pub theirs : IfOk r.replies (λ replies. All (λ reply. reply.lane ≡ s.passes.lane) replies.items)
    pub lines : IfOk r.replies (λ replies. Lines s.passes.lane (ground_of pool.cells s.passes) (paired (commands_of s.passes.lane commands) replies.items) events steps)

  -- and so did each
  abbrev pub AreRan : Pool → TableId → List Command → List (Seat D) → List (Ran D) → Type 0
  AreRan pool turn commands seats rans = (k : ℕ) (s : Seat D) (r : Ran D) → slice_get seats k ≡ Some s → slice_get rans k ≡ Some r → RanFrom pool turn commands s r
