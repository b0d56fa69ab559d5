use Rattle.std.proofs.Common.{refl}
use Rattle.ms_model.specs.Checking.{vacant_in}
use Rattle.ms_model.proofs.RunLooks.{no_fit, ample_fit, scarce_fit}
use Rattle.ms_model.proofs.checking.Checker.is_fit.Goals as goal

pub returns-in_default : goal.returns-in_default
returns-in_default c = no_fit (vacant_in c.args.self.now) _ _ _ _ c.args.seg c.in_default.ensures.none

pub returns-then-is_ample : goal.returns-then-is_ample
returns-then-is_ample c =
    let run = c.in-Some.ensures.run in
    ample_fit (vacant_in c.args.self.now) _ _ _ _ c.args.seg c.in-Some.run' _ run.0 run.1 refl (c.is_ample.ensures.holds c.if-is_ample.true) c.is_next_run.ensures

pub returns-else-is_ample : goal.returns-else-is_ample
returns-else-is_ample c =
    let run = c.in-Some.ensures.run in
    scarce_fit (vacant_in c.args.self.now) _ _ _ _ c.args.seg c.in-Some.run' _ run.0 run.1 refl (c.is_ample.ensures.fails c.if-is_ample.false) c.is_best_run.ensures
