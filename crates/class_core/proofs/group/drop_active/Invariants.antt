use Rattle.std.proofs.Common.{◌≡◌, map, take, drop, ◌++◌}
use Rattle.class_model.specs.Replay.{dropped}
use Rattle.class_core.proofs.group.drop_active.Given as goal

abbrev pub invariant-loop-slot : goal.invariant-loop-slot
invariant-loop-slot l = l.active ≡ map (dropped l.index) (take l.slot-index l.initial.active) ++ drop l.slot-index l.initial.active
