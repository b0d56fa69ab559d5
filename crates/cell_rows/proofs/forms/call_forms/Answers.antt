use Rattle.ms_cell.proofs.Gathering.{fresh_seated}
use Rattle.cell_rows.proofs.Settling.{fresh_settled}
use Rattle.cell_rows.proofs.forms.call_forms.Goals as goal

pub wrong_runs_load_nothing-wrong_runs-requires-clause-keeper : goal.wrong_runs_load_nothing-wrong_runs-requires-clause-keeper
wrong_runs_load_nothing-wrong_runs-requires-clause-keeper g c = fresh_seated 0 c.in_ok-cells.cells c.in_ok-keeper.keeper c.in_ok-keeper.ensures.fresh

pub wrong_runs_load_nothing-wrong_runs-requires-clause-settled : goal.wrong_runs_load_nothing-wrong_runs-requires-clause-settled
wrong_runs_load_nothing-wrong_runs-requires-clause-settled g c = fresh_settled c.in_ok-cells.cells c.in_ok-keeper.keeper c.in_ok-keeper.ensures.fresh

pub wrong_runs_load_nothing-wrong_runs-requires-clause-lane : goal.wrong_runs_load_nothing-wrong_runs-requires-clause-lane
wrong_runs_load_nothing-wrong_runs-requires-clause-lane g c = fresh_seated 1 c.in_ok-cells.cells c.in_ok-lane.lane c.in_ok-lane.ensures.fresh
