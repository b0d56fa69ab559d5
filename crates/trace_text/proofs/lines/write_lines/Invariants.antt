use Rattle.std.proofs.Common.{take}
use Rattle.zms_dev.proofs.Prints.{Took}
use Rattle.trace_text.specs.Numbers.{numbered}
use Rattle.trace_text.specs.Traces.{note_line}
use Rattle.trace_text.proofs.lines.write_lines.Given as goal

abbrev pub invariant-loop-at : goal.invariant-loop-at
invariant-loop-at g l =
    Took (g.S.Sink.state l.fn.sink) (g.S.Sink.state l.sink) (numbered (λ place note. note_line place (g.N.LaneNote.lane note) (g.N.LaneNote.text note)) 1 (take l.at l.notes))
