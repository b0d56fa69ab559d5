use Rattle.pool_keeper.specs.Answers.{AreSettled}
use Rattle.pool_keeper.proofs.settling.settle_each.Given as goal

abbrev pub invariant-loop-number : goal.invariant-loop-number
invariant-loop-number g l = AreSettled l.number l.lane l.group l.initial.passes l.passes
