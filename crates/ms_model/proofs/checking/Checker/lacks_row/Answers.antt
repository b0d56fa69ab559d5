use Rattle.ms_model.proofs.Reflecting.{row_same}
use Rattle.ms_model.proofs.checking.Checker.lacks_row.Goals as goal

pub returns : goal.returns
returns c = λ o h r. row_same o h c.args.self.now c.args.count _ r c.has_no_row.ensures
