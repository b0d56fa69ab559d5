use Rattle.std.proofs.Common.{take}
use Rattle.zms_dev.proofs.Prints.{Took}
use Rattle.run_text.specs.Tallies.{by_vdev}
use Rattle.run_text.specs.Texts.{metaslab_lines}
use Rattle.run_text.proofs.metaslabs.write_metaslabs.Given as goal

abbrev pub invariant-loop-vdev : goal.invariant-loop-vdev
invariant-loop-vdev g l = Took (g.S.Sink.state l.fn.out) (g.S.Sink.state l.out) (metaslab_lines (take l.vdev (by_vdev l.vdevs l.counts)))
