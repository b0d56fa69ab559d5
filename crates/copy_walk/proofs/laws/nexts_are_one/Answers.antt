use Rattle.copy_walk.proofs.Staying.{one_next}
use Rattle.copy_walk.proofs.laws.nexts_are_one.Goals as goal

pub returns : goal.returns
returns c p steps a b is one other = one_next p is steps a b one other
