use Rattle.std.proofs.Common.{◌≡◌, ◌+◌, ◌++◌, length, take}
use Rattle.pool_alloc.proofs.undoing.ran_out.Given as goal

abbrev pub invariant-loop-dva : goal.invariant-loop-dva
invariant-loop-dva l = record { left : l.left ≡ l.fn.left ++ take l.dva-index l.rest; count : length l.left ≡ length l.fn.left + l.dva-index }
