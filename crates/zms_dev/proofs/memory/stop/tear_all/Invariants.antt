use Rattle.std.proofs.Common.{take, map}
use Rattle.zms_dev.specs.History.{Stage, after, IsImage}
use Rattle.zms_dev.specs.MemoryDisk.{step_of}
use Rattle.zms_dev.specs.Stop.{Filled}
use Rattle.zms_dev.proofs.memory.stop.tear_all.Given as goal

abbrev pub invariant-loop-made : goal.invariant-loop-made
invariant-loop-made l = record {
  image : (s : Stage) → IsImage s l.fn.image.items → IsImage (after s (map (step_of l.written) (take l.made-index l.records))) l.image.items;
  filled : (s : Stage) → Filled s.ranges l.fill l.fn.image.items → Filled (after s (map (step_of l.written) (take l.made-index l.records))).ranges l.fill l.image.items;
}
