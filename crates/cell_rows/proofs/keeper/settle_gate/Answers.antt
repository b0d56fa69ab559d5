use Rattle.std.proofs.Common.{refl}
use Rattle.cell_rows.proofs.Holders.{seated_gate}
use Rattle.cell_rows.proofs.Settling.{settled_gate}
use Rattle.cell_rows.proofs.keeper.settle_gate.Goals as goal

pub returns-clause-seated : goal.returns-clause-seated
returns-clause-seated g c = seated_gate 0 c.args.passes.now c.settled_at.new.passes _ c.settled_at.ensures c.args.cells.now c.requires.seated

pub returns-clause-settled : goal.returns-clause-settled
returns-clause-settled g c = settled_gate c.args.cells.now c.args.passes.now c.settled_at.new.passes _ c.args.settled c.requires.seated refl c.requires.settled c.settled_at.ensures
