use Rattle.ms_cell.specs.Passes.{Seated}
use Rattle.cell_rows.specs.Keeper.{HasSettled}
use Rattle.cell_rows.proofs.keeper.wait_for.Given as goal

abbrev pub invariant-loop : goal.invariant-loop
invariant-loop g l = Seated 0 l.cells l.passes × HasSettled l.cells l.settled 0 l.passes
