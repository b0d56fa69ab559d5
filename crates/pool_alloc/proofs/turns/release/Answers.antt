use Rattle.lane_passes.proofs.Acting.{at_gate_acted}
use Rattle.pool_alloc.proofs.turns.release.Goals as goal

pub returns : goal.returns
returns g c = at_gate_acted c.args.cells.now c.requires.0 c.args.passes.now c.requires.1 _ _ (c.release_at.ensures c.args.passes.now.lane c.requires.1.cells)
