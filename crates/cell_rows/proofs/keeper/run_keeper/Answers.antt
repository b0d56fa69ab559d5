use Rattle.ms_cell.proofs.Gathering.{seated_idle}
use Rattle.cell_rows.proofs.keeper.run_keeper.Goals as goal

pub returns-then-opened-gt1000000 : goal.returns-then-opened-gt1000000
returns-then-opened-gt1000000 g c = seated_idle 0 c.args.cells.now c.args.passes c.requires.seated

pub returns-then-not-settle_next : goal.returns-then-not-settle_next
returns-then-not-settle_next g c = seated_idle 0 c.args.cells.now c.settle_next.new.passes c.settle_next.ensures.seated

pub returns : goal.returns
returns g c = seated_idle 0 c.args.cells.now c.loop-group.passes c.loop-group.invariant.0
