use Rattle.std.proofs.Common.{None, arith}
use Rattle.cell_rows.proofs.Holders.{seated_gate, closings_gate}
use Rattle.cell_rows.proofs.lanes.release.Goals as goal

pub release_at-requires : goal.release_at-requires
release_at-requires g c = (c.args.lane, c.requires.seated)

pub returns-clause-seated : goal.returns-clause-seated
returns-clause-seated g c = seated_gate c.args.lane c.args.passes.now c.release_at.new.passes _ (c.release_at.ensures c.args.lane c.requires.seated) c.args.cells.now c.requires.seated

pub returns-clause-own : goal.returns-clause-own
returns-clause-own g c =
    let w = c.release_at.ensures c.args.lane c.requires.seated in
    omega (arith, closings_gate c.args.lane c.args.passes.now c.release_at.new.passes _ w None w.answer)
