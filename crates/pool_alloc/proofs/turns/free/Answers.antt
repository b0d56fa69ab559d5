use Rattle.pool_alloc.proofs.Turning.{at_metaslab_of}
use Rattle.pool_alloc.proofs.turns.free.Goals as goal

pub returns : goal.returns
returns g c = at_metaslab_of c.args.cells.now c.requires.seated.0 c.args.passes.now c.requires.seated.1 c.args.id _ _ c.free_at.ensures
