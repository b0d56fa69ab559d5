use Rattle.std.proofs.Common.{◌≡◌, length, take}
use Rattle.std.specs.List.{All}
use Rattle.lane_run.specs.Acts.{IsSpared}
use Rattle.lane_run.specs.Answers.{paired}
use Rattle.lane_run.specs.Names.{AreNamed}
use Rattle.lane_run.specs.Runs.{commands_of, LaneRan}
use Rattle.lane_run.proofs.lane.run_lane.Given as goal

abbrev pub invariant-loop-command : goal.invariant-loop-command
invariant-loop-command g l = record {
  each : length l.replies.items ≡ length (commands_of l.fn.passes.lane (take l.command-index l.commands));
  theirs : All (λ r. r.lane ≡ l.fn.passes.lane) l.replies.items;
  named : AreNamed (paired (commands_of l.fn.passes.lane (take l.command-index l.commands)) l.replies.items) l.blocks;
  ran : LaneRan l.cells (paired (commands_of l.fn.passes.lane (take l.command-index l.commands)) l.replies.items) l.fn.passes l.passes l.fn.keeper l.keeper;
  spared : IsSpared l.command-index l.fn.passes l.passes l.fn.keeper l.keeper;
}
