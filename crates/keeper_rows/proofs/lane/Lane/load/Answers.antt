use Rattle.keeper_rows.proofs.AtWork.{works_loaded}
use Rattle.keeper_rows.proofs.lane.Lane.load.Goals as goal

pub invariant_of-self : goal.invariant_of-self
invariant_of-self g c = works_loaded c.self.inside.cells.now c.self.inside.classes.now c.self.inside.closed c.self.inside.keeper c.self.inside.passes c.self.invariant c.load.new.self c.load.new.passes c.load.ensures.passes c.load.ensures.follows
