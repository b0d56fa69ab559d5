use Rattle.std.proofs.Common.{length, arith}
use Rattle.zms_units.proofs.Counting.{units_le}
use Rattle.ms_model.specs.Checking.{vacant_in}
use Rattle.ms_model.proofs.RunLooks.{share_decides, le_decides}
use Rattle.ms_model.proofs.checking.Checker.is_ample.Goals as goal

pub overflow_mul-result : goal.overflow_mul-result
overflow_mul-result c =
    let most = c.requires.most in
    omega (arith, units_le (vacant_in c.args.self.now) (length c.args.self.now.lasts.items), c.vacant_count.ensures)

pub returns-then-has_run : goal.returns-then-has_run
returns-then-has_run c =
    share_decides (vacant_in c.args.self.now) (length c.args.self.now.lasts.items) c.args.self.now.ashift _ _ _ _ _ c.requires.shift
    c.long.ensures.least (c.has_run.ensures.holds c.if-has_run.true)
    (le_decides _ _ _ _ c.units.ensures c.vacant_count.ensures)
