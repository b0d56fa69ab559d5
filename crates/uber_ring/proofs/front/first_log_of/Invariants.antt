use Rattle.std.proofs.Common.{◌≡◌, ◌+◌, ◌≤◌, min, fold, map, take}
use Rattle.uber_ring.specs.TableBytes.{rows_in}
use Rattle.uber_ring.proofs.front.first_log_of.Given as goal

abbrev pub invariant-loop-m : goal.invariant-loop-m
invariant-loop-m l = record {
  least : l.first ≡ fold min (l.group + 1) (map (λ row. row.unflushed.0) (take l.m (rows_in l.bytes)));
  bound : l.first ≤ l.group + 1;
}
