use Rattle.ms_cell.specs.Passes.{Seated}
use Rattle.cell_rows.specs.Keeper.{HasSettled}
use Rattle.cell_rows.proofs.keeper.load_all.Given as goal

abbrev pub invariant-loop-number : goal.invariant-loop-number
invariant-loop-number g l = Seated 0 l.cells l.passes × HasSettled l.cells l.cells.opened 0 l.passes
