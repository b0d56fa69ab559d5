use Rattle.keeper_rows.proofs.AtWork.{works_at}
use Rattle.keeper_rows.proofs.lane.Lane.ask.Goals as goal

pub invariant_of-self : goal.invariant_of-self
invariant_of-self g c = works_at c.self.inside.cells.now c.self.inside.classes.now c.self.inside.closed c.self.inside.keeper c.self.inside.passes c.self.invariant _ _ c.grant_at.new.passes c.grant_at.ensures
