use Rattle.pool_alloc.proofs.Turning.{at_class_of}
use Rattle.pool_alloc.proofs.turns.pick.Goals as goal

pub returns-clause-acted : goal.returns-clause-acted
returns-clause-acted g c = at_class_of c.args.cells.now c.args.classes.now c.args.passes.now c.requires.seated c.args.vdev _ _ c.pick.ensures.turned
