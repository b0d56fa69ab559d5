use Rattle.std.proofs.Common.{◌∙◌}
use Rattle.pool_seats.proofs.keeping.keep.Goals as goal

pub returns-in-Ok-clause-starts : goal.returns-in-Ok-clause-starts
returns-in-Ok-clause-starts g c = record {
  start = c.new.result.start;
  is = c.next_pass-zero.ensures.fixed.0 ∙ c.in-Ok.ensures.fixed;
  store_is = c.new.ensures.store;
  passes_are = c.new.ensures.passes;
}
