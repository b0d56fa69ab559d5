use Rattle.ms_model.proofs.Overlaps.{overlaps_nothing}
use Rattle.ms_model.proofs.laws.grants_overlap_nothing.Goals as goal

pub returns : goal.returns
returns c = overlaps_nothing
