use Rattle.keeper_rows.proofs.AtWork.{works_gate}
use Rattle.keeper_rows.proofs.lane.Lane.release.Goals as goal

pub invariant_of-self : goal.invariant_of-self
invariant_of-self g c = works_gate c.self.inside.cells.now c.self.inside.classes.now c.self.inside.closed c.self.inside.keeper c.self.inside.passes c.self.invariant _ c.release_at.new.passes (λ h n a. a) (c.release_at.ensures c.self.inside.passes.lane c.self.invariant.seated.cells)
