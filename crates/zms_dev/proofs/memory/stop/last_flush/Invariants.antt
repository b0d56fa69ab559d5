use Rattle.std.proofs.Common.{◌≡◌, ℕ, ◌<◌, ◌≤◌, List, take, map, false, slice_index_or}
use Rattle.zms_dev.specs.History.{start, after}
use Rattle.zms_dev.specs.MemoryDisk.{step_of}
use Rattle.zms_dev.specs.Stop.{IsAtRest, has_flushed}
use Rattle.zms_dev.specs.declared.memory.calls.CallRecord.{CallRecord}
use Rattle.zms_dev.proofs.memory.stop.last_flush.Given as goal

abbrev pub invariant-loop-i : goal.invariant-loop-i
invariant-loop-i l = record {
  bound : l.last ≤ l.i;
  at_rest : (first written : List ℕ) → IsAtRest (after (start first) (map (step_of written) (take l.last l.records)));
  none_since : (k : ℕ) (other : CallRecord) → l.last ≤ k → k < l.i → has_flushed (slice_index_or l.records k other) ≡ false;
}
