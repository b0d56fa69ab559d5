use Rattle.zms_units.proofs.Fits.{one_fit}
use Rattle.fit_rule.proofs.one_fit.Goals as goal

pub returns : goal.returns
returns c = one_fit
