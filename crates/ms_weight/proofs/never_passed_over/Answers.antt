use Rattle.ms_weight.proofs.Never.{never}
use Rattle.ms_weight.proofs.never_passed_over.Goals as goal

pub returns : goal.returns
returns c = never
