use Rattle.class_model.proofs.Journals.{legal_before}
use Rattle.class_model.proofs.laws.beginnings_are_legal.Goals as goal

pub returns : goal.returns
returns c = legal_before
