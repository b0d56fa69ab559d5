use Rattle.std.proofs.Common.{take}
use Rattle.zms_dev.proofs.Prints.{Took}
use Rattle.trace_text.specs.Numbers.{numbered}
use Rattle.zdb_report.proofs.placed.write_placed.Given as goal

abbrev pub invariant-loop-place : goal.invariant-loop-place
invariant-loop-place g l = Took (g.S.Sink.state l.fn.sink) (g.S.Sink.state l.sink) (numbered g.T.Placed.text 0 (take l.place l.items))
