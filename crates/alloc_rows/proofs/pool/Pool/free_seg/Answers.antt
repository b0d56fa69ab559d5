use Rattle.alloc_rows.proofs.Resting.{rests_behind}
use Rattle.alloc_rows.proofs.pool.Pool.free_seg.Goals as goal

pub invariant_of-self : goal.invariant_of-self
invariant_of-self g c = rests_behind _ _ _ _ _ _ _ _ _ _ _ _ _ c.self.invariant c.free_seg.ensures.acted c.free_seg.ensures.follows
