use Rattle.keeper_rows.proofs.AtWork.{works_synced}
use Rattle.keeper_rows.proofs.lane.Lane.sync.Goals as goal

pub invariant_of-self : goal.invariant_of-self
invariant_of-self g c = works_synced c.self.inside.cells.now c.self.inside.classes.now c.self.inside.closed c.self.inside.keeper c.self.inside.passes c.self.invariant c.sync.result c.sync.new.keeper c.sync.new.passes c.sync.ensures.done c.sync.ensures.serves
