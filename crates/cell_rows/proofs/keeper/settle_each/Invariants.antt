use Rattle.turn_cell.specs.Notes.{IsPrefix}
use Rattle.ms_cell.specs.Passes.{Seated}
use Rattle.cell_rows.specs.Keeper.{HasSettled}
use Rattle.cell_rows.proofs.keeper.settle_each.Given as goal

abbrev pub invariant-loop-number : goal.invariant-loop-number
invariant-loop-number g l = record {
  seated : Seated 0 l.cells l.passes;
  settled : HasSettled l.cells l.settled l.number l.passes;
  later : IsPrefix l.fn.passes.gate.seen l.passes.gate.seen;
}
