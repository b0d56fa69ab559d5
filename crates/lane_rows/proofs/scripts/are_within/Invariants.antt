use Rattle.std.proofs.Common.{ℕ, ◌<◌, get_or}
use Rattle.cmd_text.specs.declared.script.Command.{Command}
use Rattle.pool_lanes.specs.Lanes.{IsCommandWithin}
use Rattle.lane_rows.proofs.scripts.are_within.Given as goal

abbrev pub invariant-loop-command : goal.invariant-loop-command
invariant-loop-command l = (k : ℕ) (c : Command) → k < l.command-index → IsCommandWithin l.lanes (get_or l.commands k c)
