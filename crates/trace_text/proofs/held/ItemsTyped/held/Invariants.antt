use Rattle.std.proofs.Common.{◌<◌, get_or}
use Rattle.trace_text.proofs.held.ItemsTyped.held.Given as goal

abbrev pub invariant-loop-item : goal.invariant-loop-item
invariant-loop-item g l = (k : _) (d : _) → k < l.item-index → g.T.Typed.held (get_or l.items k d)
