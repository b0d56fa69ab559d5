use Rattle.keeper_rows.specs.Parts.{CountsTo}
use Rattle.keeper_rows.proofs.opening.counts.Given as goal

abbrev pub invariant-loop-number : goal.invariant-loop-number
invariant-loop-number l = CountsTo l.cells.vdevs l.held l.store.table l.number
