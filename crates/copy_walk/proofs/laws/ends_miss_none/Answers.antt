use Rattle.copy_walk.proofs.laws.ends_miss_none.Goals as goal

pub returns : goal.returns
returns c p steps end = end.all
