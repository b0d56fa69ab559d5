use Rattle.std.proofs.Common.{◌+◌}
use Rattle.ms_cell.specs.Passes.{Seated}
use Rattle.cell_rows.specs.Keeper.{HasSettled}
use Rattle.cell_rows.proofs.keeper.run_keeper.Given as goal

abbrev pub invariant-loop-group : goal.invariant-loop-group
invariant-loop-group g l = Seated 0 l.cells l.passes × HasSettled l.cells (l.opened + l.group) 0 l.passes
