use Rattle.copy_walk.proofs.Staying.{last_look_new}
use Rattle.copy_walk.proofs.laws.last_looks_are_new.Goals as goal

pub returns : goal.returns
returns c = last_look_new
