use Rattle.std.proofs.Common.{◌≡◌, ◌≤◌, [], vec_len}
use Rattle.std.specs.Vec.{vec_capacity}
use Rattle.std.specs.List.{All}
use Rattle.cell_rows.proofs.pool.no_bases.Given as goal

abbrev pub invariant-loop-number : goal.invariant-loop-number
invariant-loop-number l = record {
  count : vec_len l.bases ≡ l.number;
  room : l.count ≤ vec_capacity l.bases;
  empty : All (λ base. base ≡ []) l.bases.items;
}
