use Rattle.std.proofs.Common.{◌≡◌, take}
use Rattle.std.specs.List.{flat_map, range_with_len}
use Rattle.uber_ring.specs.TableBytes.{logs_in}
use Rattle.uber_ring.specs.TableFields.{Each, IsRight, log_fields}
use Rattle.uber_ring.specs.declared.slot.Uber.{Uber}
use Rattle.uber_ring.proofs.decode.logs_of.Given as goal

abbrev pub invariant-loop-l : goal.invariant-loop-l
invariant-loop-l l = record {
  rows : l.logs.items ≡ take l.l (logs_in l.bytes);
  right : (uber : Uber) → Each (IsRight l.head uber l.bytes) (flat_map log_fields (range_with_len 0 l.l));
}
