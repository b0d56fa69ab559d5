use Rattle.std.proofs.Common.{◌≡◌, ℕ, ◌+◌, ◌≤◌, length, drop}
use Rattle.std.specs.Vec.{vec_capacity}
use Rattle.std.specs.Vec.Iter.{into_iter_items, into_iter_len}
use Rattle.pool_lanes.proofs.Joinings.{AreJoined}
use Rattle.pool_lanes.proofs.returning.join_lanes.Given as goal

abbrev pub invariant-loop-ran : goal.invariant-loop-ran
invariant-loop-ran g l =
    (n : ℕ)
    × ((into_iter_items l.ran-iterator ≡ drop n l.fn.rans.items)
    × ((into_iter_len l.ran-iterator + n ≡ length l.fn.rans.items)
    × ((length l.fn.rans.items ≤ vec_capacity l.lists)
    × AreJoined l.pool l.turn l.fn.rest l.fn.keeper l.rest l.keeper l.fn.rans.items l.lists.items l.failed n)))
