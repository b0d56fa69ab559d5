use Rattle.std.proofs.Common.{◌≡◌, take}
use Rattle.lane_run.proofs.blocks.copied.Given as goal

abbrev pub invariant-loop-dva : goal.invariant-loop-dva
invariant-loop-dva l = l.again ≡ take l.dva-index l.copies
