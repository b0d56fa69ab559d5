use Rattle.std.proofs.Common.{◌≡◌, take}
use Rattle.std.specs.List.{flat_map, range_with_len}
use Rattle.uber_ring.specs.TableBytes.{rows_in}
use Rattle.uber_ring.specs.TableFields.{Each, IsRight, row_fields}
use Rattle.uber_ring.proofs.decode.rows_of.Given as goal

abbrev pub invariant-loop-m : goal.invariant-loop-m
invariant-loop-m l = record {
  rows : l.rows.items ≡ take l.m (rows_in l.bytes);
  right : Each (IsRight l.head l.uber l.bytes) (flat_map row_fields (range_with_len 0 l.m));
}
