-- A pool whose lanes are to begin.
use Rattle.std.specs.Prelude.{◌≤◌, List, length}
use Rattle.std.specs.List.{All}
use Rattle.zms_units.specs.Limits.{IsLane, MAX_COMMANDS}
use Rattle.zms_units.specs.declared.segments.Seg.{Seg}
use Rattle.turn_passes.specs.Parts.{IsFresh, IsRest}
use Rattle.ms_cell.specs.Passes.{Passes}
use Rattle.meta_store.specs.Stores.{StoreState}
use Rattle.cmd_text.specs.declared.script.Script.{Script}
use Rattle.pool_seats.specs.Seats.{StartsWith, IsPrepared}
use Rattle.pool_lanes.specs.Lanes.{IsCommandWithin}
use Rattle.pool_lanes.specs.Rooms.{AreRooms}
use Rattle.pool_lanes.specs.declared.lanes.Begun.{Begun}

-- a file of at most so many commands, of one to sixteen lanes, and of the kinds that lanes run
pub record IsScript (s : Script) : Type 0 where
  pub lanes : IsLane s.lanes
  pub few : length s.commands ≤ MAX_COMMANDS
  pub each : All (IsCommandWithin s.lanes) s.commands

module _ {D : Type 0} where
  -- all memory is taken, and the keeper has the store
  pub record HasBegun (store : StoreState D) (bases : List (List Seg)) (script : Script) (b : Begun D) : Type 0 where
    pub passes : Passes
    pub prepared : IsPrepared store bases script.lanes (record { pool = b.pool; rest = b.rest; keeper = passes; lanes = b.lanes })
    pub rest : IsRest 1 b.kept.turn b.kept.rest
    pub zero : IsFresh 0 b.kept.turn b.kept.zero
    pub starts : StartsWith store passes b.kept.rest.fixed
    pub rooms : AreRooms script.lanes (length script.commands) (length b.pool.cells.metaslabs) b.rooms
