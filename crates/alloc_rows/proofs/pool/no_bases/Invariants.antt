use Rattle.std.proofs.Common.{◌≡◌, ◌≤◌, [], vec_len}
use Rattle.std.specs.Vec.{vec_capacity}
use Rattle.std.specs.List.{All}
use Rattle.alloc_rows.proofs.pool.no_bases.Given as goal

abbrev pub invariant-loop : goal.invariant-loop
invariant-loop l = record {
  count : vec_len l.bases ≡ l.counter;
  room : l.count ≤ vec_capacity l.bases;
  empty : All (λ base. base ≡ []) l.bases.items;
}
