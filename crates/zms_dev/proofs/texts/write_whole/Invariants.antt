use Rattle.std.proofs.Common.{◌≡◌, ◌-◌, ◌≤◌, ◌++◌, length, take}
use Rattle.std.specs.Prelude.{IsSome, is_some}
use Rattle.zms_dev.specs.Stream.{told}
use Rattle.zms_dev.proofs.texts.write_whole.Given as goal

abbrev pub invariant-loop-written : goal.invariant-loop-written
invariant-loop-written g l = record {
  within : l.written ≤ length l.bytes;
  taken : IsSome (g.S.Sink.state l.fn.sink).taken → told (g.S.Sink.state l.sink).taken ≡ told (g.S.Sink.state l.fn.sink).taken ++ take l.written l.bytes;
  kind : is_some (g.S.Sink.state l.sink).taken ≡ is_some (g.S.Sink.state l.fn.sink).taken;
  steady : (g.S.Sink.state l.sink).faults ≡ (g.S.Sink.state l.fn.sink).faults;
}

abbrev pub decreases-loop-written : goal.decreases-loop-written
decreases-loop-written g l = length l.bytes - l.written
