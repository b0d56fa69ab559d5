use Rattle.ms_model.specs.Checking.{vacant_in}
use Rattle.ms_model.proofs.RunLooks.{row_decided}
use Rattle.ms_model.proofs.checking.Checker.has_no_row.Goals as goal

pub returns-then-count-gt0 : goal.returns-then-count-gt0
returns-then-count-gt0 c =
    let l = c.long.ensures in
    row_decided (vacant_in c.args.self.now) _ c.requires c.has_run.result c.args.count _ _ _ _ c.if-count-gt0.true l.least l.most l.from l.below c.has_run.ensures
