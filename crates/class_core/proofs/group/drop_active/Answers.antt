use Rattle.std.proofs.Common.{arith}
use Rattle.std.proofs.lemmas.Grind.{common_steps}
use Rattle.std.proofs.lemmas.List.Edits.{map_over_more}
use Rattle.class_model.specs.Replay.{dropped}
use Rattle.class_core.proofs.group.drop_active.Goals as goal

pub loop-slot-preserved : goal.loop-slot-preserved
loop-slot-preserved c = grind (arith, common_steps, map_over_more (dropped c.args.index))
