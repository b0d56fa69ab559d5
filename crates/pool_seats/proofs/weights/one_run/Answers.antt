use Rattle.std.proofs.Common.{◌∙◌, arith}
use Rattle.ms_core.proofs.Bucketing.{one_run, no_run}
use Rattle.pool_seats.proofs.weights.one_run.Goals as goal

pub add-requires : goal.add-requires
add-requires c = record {
  shift = (c.requires.shift.least, c.requires.shift.most);
  run = (c.if-count-gt0.true, omega arith);
  few = λ bucket l. omega (arith, c.empty-hist.ensures bucket);
}

pub returns-then-count-gt0 : goal.returns-then-count-gt0
returns-then-count-gt0 c =
    one_run c.args.units c.args.ashift c.args.count _ c.if-count-gt0.true c.requires.count
    (λ bucket l. c.add.ensures bucket l ∙ omega (arith, c.empty-hist.ensures bucket))

pub returns-else-count-gt0 : goal.returns-else-count-gt0
returns-else-count-gt0 c = no_run c.args.units c.args.ashift c.args.count _ (omega arith) (λ bucket l. c.empty-hist.ensures bucket)
