use Rattle.std.proofs.Common.{take}
use Rattle.cmd_text.specs.Reading.{Lacks}
use Rattle.vdev_text.proofs.vdev.position_of.Given as goal

abbrev pub invariant-loop-i : goal.invariant-loop-i
invariant-loop-i l = Lacks l.byte (take l.i l.text)
