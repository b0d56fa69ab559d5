use Rattle.std.proofs.Common.{refl}
use Rattle.turn_passes.proofs.single.close_turn.Goals as goal

pub loop-init : goal.loop-init
loop-init g c = (refl, (c.args.pass.tries, refl))
