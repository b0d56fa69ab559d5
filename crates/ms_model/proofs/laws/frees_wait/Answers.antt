use Rattle.ms_model.proofs.Waiting.{frees_wait_so}
use Rattle.ms_model.proofs.laws.frees_wait.Goals as goal

pub returns : goal.returns
returns c = frees_wait_so
