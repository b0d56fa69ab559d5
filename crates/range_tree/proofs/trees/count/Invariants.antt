use Rattle.std.proofs.Common.{◌≡◌, ◌+◌}
use Rattle.range_tree.proofs.trees.count.Given as goal

abbrev pub invariant-loop : goal.invariant-loop
invariant-loop g l = l.steps ≡ l.fn.steps + l.counter
