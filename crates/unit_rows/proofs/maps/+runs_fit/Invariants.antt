use Rattle.std.proofs.Common.{length}
use Rattle.unit_rows.proofs.maps.+runs_fit.Given as goal

abbrev pub decreases-runs_fit : goal.decreases-runs_fit
decreases-runs_fit l = length l.runs.now
