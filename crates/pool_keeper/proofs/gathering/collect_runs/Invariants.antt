use Rattle.std.proofs.Common.{◌≡◌, []}
use Rattle.ms_cell.specs.Journey.{Journey}
use Rattle.pool_keeper.proofs.gathering.collect_runs.Given as goal

abbrev pub invariant-loop : goal.invariant-loop
invariant-loop g l = record {
  allocs : l.buf.allocs.items ≡ [];
  frees : l.buf.frees.items ≡ [];
  calm : Journey 0 [] l.initial.passes l.passes;
}
