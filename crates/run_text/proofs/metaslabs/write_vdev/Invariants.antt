use Rattle.std.proofs.Common.{take}
use Rattle.zms_dev.proofs.Prints.{Took}
use Rattle.trace_text.specs.Numbers.{numbered}
use Rattle.run_text.specs.Texts.{metaslab_line}
use Rattle.run_text.proofs.metaslabs.write_vdev.Given as goal

abbrev pub invariant-loop-index : goal.invariant-loop-index
invariant-loop-index g l = Took (g.S.Sink.state l.fn.out) (g.S.Sink.state l.out) (numbered (metaslab_line l.vdev) 0 (take l.index l.counts))
