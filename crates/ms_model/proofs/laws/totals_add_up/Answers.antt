use Rattle.ms_model.proofs.Totals.{totals}
use Rattle.ms_model.proofs.laws.totals_add_up.Goals as goal

pub returns : goal.returns
returns c = totals
