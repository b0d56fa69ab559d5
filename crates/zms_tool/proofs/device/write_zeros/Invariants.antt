use Rattle.std.proofs.Common.{◌-◌}
use Rattle.zms_tool.proofs.device.write_zeros.Given as goal

abbrev pub decreases-loop-next : goal.decreases-loop-next
decreases-loop-next l = l.end - l.next
