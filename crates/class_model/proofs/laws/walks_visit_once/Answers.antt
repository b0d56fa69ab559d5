use Rattle.class_model.proofs.Walks.{visits_once}
use Rattle.class_model.proofs.laws.walks_visit_once.Goals as goal

pub returns : goal.returns
returns c = visits_once
