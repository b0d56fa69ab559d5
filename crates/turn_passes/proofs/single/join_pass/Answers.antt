use Rattle.turn_passes.proofs.Parts.{joined_is}
use Rattle.turn_passes.proofs.single.join_pass.Goals as goal

pub returns : goal.returns
returns g c = joined_is c.args.first.now c.args.second _ c.requires.first.idle c.join.ensures.first c.join.ensures.seen
