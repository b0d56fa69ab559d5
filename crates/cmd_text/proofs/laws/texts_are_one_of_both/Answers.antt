use Rattle.cmd_text.proofs.Either.{one_of_both}
use Rattle.cmd_text.proofs.laws.texts_are_one_of_both.Goals as goal

pub returns : goal.returns
returns c = one_of_both
