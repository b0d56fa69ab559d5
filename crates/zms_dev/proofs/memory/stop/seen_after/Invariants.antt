use Rattle.std.proofs.Common.{◌≡◌, take, map}
use Rattle.zms_dev.specs.History.{start, after}
use Rattle.zms_dev.specs.MemoryDisk.{step_of}
use Rattle.zms_dev.proofs.memory.stop.seen_after.Given as goal

abbrev pub invariant-loop-made : goal.invariant-loop-made
invariant-loop-made l = l.image.items ≡ (after (start l.first) (map (step_of l.written) (take l.made-index l.records))).seen
