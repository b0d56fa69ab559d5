use Rattle.space_map.proofs.Replaying.{batch_decides}
use Rattle.space_map.proofs.laws.last_run_decides.Goals as goal

pub returns-clause-batch : goal.returns-clause-batch
returns-clause-batch c = batch_decides
