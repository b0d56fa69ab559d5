use Rattle.copy_walk.proofs.Staying.{first_active}
use Rattle.copy_walk.proofs.laws.first_picks_are_active.Goals as goal

pub returns : goal.returns
returns c p steps before pick rest is are e new = first_active p is steps before pick rest are e new
