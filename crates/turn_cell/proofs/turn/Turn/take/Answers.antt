use Rattle.std.proofs.Common.{suc}
use Rattle.turn_cell.proofs.Passes.{one_more_miss}
use Rattle.turn_cell.proofs.turn.Turn.take.Goals as goal

pub loop-preserved : goal.loop-preserved
loop-preserved g c = (suc c.loop.invariant.0, one_more_miss _ _ _ _ c.loop.invariant.1 c.in_default.ensures.none)
