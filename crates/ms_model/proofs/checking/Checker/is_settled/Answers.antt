use Rattle.ms_model.proofs.Reflecting.{settled_decides}
use Rattle.ms_model.proofs.checking.Checker.is_settled.Goals as goal

pub returns : goal.returns
returns c = λ o h r. settled_decides c.args.self.now.changed.0 c.args.self.now.settled.0 _ h r.changed r.settled
