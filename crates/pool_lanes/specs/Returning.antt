-- What lanes owned comes back with their replies.
use Rattle.std.specs.Prelude.{◌≡◌, ℕ, ◌+◌, Some, Ok, List, length, map, slice_get}
use Rattle.std.specs.Global.{Vec}
use Rattle.turn_cell.specs.Known.{Known, TableId}
use Rattle.turn_cell.specs.Lanes.{Step, Went}
use Rattle.turn_passes.specs.Pairs.{Each}
use Rattle.lane_passes.specs.Lanes.{LaneEvent, IsSeated, ground_of, Journey}
use Rattle.pool_keeper.specs.Notes.{KeeperNoted, keeper_right}
use Rattle.pool_keeper.specs.declared.keeper.Start.{Start}
use Rattle.range_tree.specs.declared.trees.RangeTrees.{RangeTrees}
use Rattle.cmd_text.specs.declared.script.Command.{Command}
use Rattle.lane_run.specs.Answers.{paired}
use Rattle.lane_run.specs.Lines.{Lines}
use Rattle.lane_run.specs.Runs.{commands_of}
use Rattle.lane_run.specs.declared.replies.Reply.{Reply}
use Rattle.pool_seats.specs.Joining.{AreBackFrom}
use Rattle.pool_seats.specs.declared.pool.Pool.{Pool}
use Rattle.pool_seats.specs.declared.pool.Rest.{Rest}
use Rattle.pool_seats.specs.declared.pool.Seat.{Seat}
use Rattle.pool_lanes.specs.Merging.{replies_of}
use Rattle.pool_lanes.specs.declared.running.Ran.{Ran}

module _ {D : Type 0} where
  abbrev pub EachRan : (Ran D → Type 0) → List (Ran D) → Type 0
  EachRan P rans = (k : ℕ) (r : Ran D) → slice_get rans k ≡ Some r → P r

  -- the lists of lanes of which none met want of memory
  pub record AreListsOf (rans : List (Ran D)) (lists : List (Vec Reply)) : Type 0 where
    pub count : length lists ≡ length rans
    pub each : Each (λ k r list. r.replies ≡ Ok list) rans lists

  -- a lane took just these steps, each reply of it is as its line says, and the rest has all that the lane had at its end
  pub record IsReplied (pool : Pool) (turn : TableId) (commands : List Command) (rest : Rest) (keeper : Known KeeperNoted (Start D RangeTrees)) (replies : List Reply) (s : Seat D) : Type 0 where
    pub last : Seat D
    pub events : List LaneEvent
    pub steps : List (Step KeeperNoted)
    pub journey : Journey events s.passes last.passes
    pub went : Went keeper_right s.passes.lane steps s.keeper last.keeper
    pub seated : IsSeated pool.cells pool.classes last.passes
    pub lines : Lines s.passes.lane (ground_of pool.cells s.passes) (paired (commands_of s.passes.lane commands) (replies_of s.passes.lane replies)) events steps
    pub back : AreBackFrom rest keeper last

  -- one reply a command, of its lane, and so did each lane
  pub record AreReplied (pool : Pool) (turn : TableId) (commands : List Command) (seats : List (Seat D)) (rest : Rest) (keeper : Known KeeperNoted (Start D RangeTrees)) (replies : List Reply) : Type 0 where
    pub lanes : map (λ (r : Reply). r.lane) replies ≡ map (λ (c : Command). c.lane) commands
    pub each : (k : ℕ) (s : Seat D) → slice_get seats k ≡ Some s → IsReplied pool turn commands rest keeper replies s

  -- the seats of lanes from 1 on, in order
  abbrev pub AreNumbered : List (Seat D) → Type 0
  AreNumbered seats = (k : ℕ) (s : Seat D) → slice_get seats k ≡ Some s → s.passes.lane ≡ k + 1
