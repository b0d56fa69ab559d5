use Rattle.std.proofs.Common.{[]}
use Rattle.ms_cell.specs.Journey.{Journey}
use Rattle.pool_keeper.proofs.syncing.wait_for.Given as goal

abbrev pub invariant-loop : goal.invariant-loop
invariant-loop g l = Journey l.lane [] l.fn.passes l.passes
