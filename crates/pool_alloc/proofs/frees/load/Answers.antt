use Rattle.lane_passes.proofs.Acting.{cells_went}
use Rattle.pool_alloc.proofs.frees.load.Goals as goal

pub returns-in-Ok-clause-acted : goal.returns-in-Ok-clause-acted
returns-in-Ok-clause-acted g c = cells_went c.args.cells.now c.requires.seated.0 c.args.passes.now c.requires.seated.1 c.load.new.passes c.in-Ok.ensures.passes

pub returns-in-Err-Device-clause-acted : goal.returns-in-Err-Device-clause-acted
returns-in-Err-Device-clause-acted g c = cells_went c.args.cells.now c.requires.seated.0 c.args.passes.now c.requires.seated.1 c.load.new.passes c.in-Err-Device.ensures.passes

pub returns-in-Err-Damaged-clause-acted : goal.returns-in-Err-Damaged-clause-acted
returns-in-Err-Damaged-clause-acted g c = cells_went c.args.cells.now c.requires.seated.0 c.args.passes.now c.requires.seated.1 c.load.new.passes c.in-Err-Damaged.ensures.passes

pub returns-in-Err-Suspended-clause-acted : goal.returns-in-Err-Suspended-clause-acted
returns-in-Err-Suspended-clause-acted g c = cells_went c.args.cells.now c.requires.seated.0 c.args.passes.now c.requires.seated.1 c.load.new.passes c.in-Err-Suspended.ensures.passes

pub returns-in-Err-Memory-clause-acted : goal.returns-in-Err-Memory-clause-acted
returns-in-Err-Memory-clause-acted g c = cells_went c.args.cells.now c.requires.seated.0 c.args.passes.now c.requires.seated.1 c.load.new.passes c.in-Err-Memory.ensures.passes
