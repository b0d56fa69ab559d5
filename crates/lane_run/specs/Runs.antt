-- What a whole run of a lane's commands did.
use Rattle.std.specs.Prelude.{ℕ, ◌==◌, List}
use Rattle.std.specs.List.{filter}
use Rattle.ms_cell.specs.Turns.{Turns}
use Rattle.lane_passes.specs.declared.passes.LanePasses.{LanePasses}
use Rattle.pool_keeper.specs.declared.lane_keeper.LaneKeeper.{LaneKeeper}
use Rattle.cmd_text.specs.declared.script.Command.{Command}
use Rattle.cmd_text.specs.declared.script.What.{What}
use Rattle.cmd_text.specs.declared.script.What.TheVariants.{Alloc, Free, FreeSeg, Sync, Load, Unload, Init, Trim, AutoTrim}
use Rattle.lane_run.specs.Acts.{LaneDid}
use Rattle.lane_run.specs.Answers.{Replied}
use Rattle.lane_run.specs.Lines.{Lines}

-- the kinds of command that a lane runs
abbrev pub IsRun : What → Type 0
IsRun (Alloc _ _ _ _) = Unit {0}
IsRun (Free _) = Unit {0}
IsRun (FreeSeg _ _ _) = Unit {0}
IsRun Sync = Unit {0}
IsRun (Load _ _) = Unit {0}
IsRun (Unload _ _) = ⊥
IsRun (Init _) = ⊥
IsRun (Trim _) = ⊥
IsRun (AutoTrim _) = ⊥

-- the commands of one lane among those of all lanes, in their order
abbrev pub commands_of : ℕ → List Command → List Command
commands_of lane commands = filter (λ c. lane == c.lane) commands

module _ {D R : Type 0} where
  -- the lane's passes and its part of the keeper went from one state to another by these commands, with these replies
  abbrev pub LaneRan : Turns → List Replied → LanePasses R → LanePasses R → LaneKeeper D R → LaneKeeper D R → Type 0
  LaneRan t done p q a b = LaneDid t (λ g es ks. Lines p.lane g done es ks) p q a b
