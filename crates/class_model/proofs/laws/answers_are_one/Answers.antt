use Rattle.class_model.proofs.Answers.{answer_once}
use Rattle.class_model.proofs.laws.answers_are_one.Goals as goal

pub returns : goal.returns
returns c = answer_once
