use Rattle.keeper_rows.proofs.AtWork.{works_closed}
use Rattle.keeper_rows.proofs.lane.Lane.close.Goals as goal

pub invariant_of-self : goal.invariant_of-self
invariant_of-self g c = works_closed c.self.inside.cells.now c.self.inside.classes.now c.self.inside.closed c.self.inside.keeper c.self.inside.passes c.self.invariant c.close_open_at.result c.close_open_at.new.passes c.close_open_at.ensures
