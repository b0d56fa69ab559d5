use Rattle.std.proofs.Common.{take}
use Rattle.std.specs.List.{flat_map}
use Rattle.zms_dev.proofs.Prints.{Took}
use Rattle.trace_text.proofs.printed.EachPrinted.write.Given as goal

abbrev pub invariant-loop-item : goal.invariant-loop-item
invariant-loop-item g l = Took (g.S.Sink.state l.fn.sink) (g.S.Sink.state l.sink) (flat_map g.T.Printed.text (take l.item-index l.self.0.now))
