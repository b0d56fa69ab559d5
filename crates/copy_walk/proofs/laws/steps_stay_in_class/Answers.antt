use Rattle.copy_walk.proofs.Staying.{of_class}
use Rattle.copy_walk.proofs.laws.steps_stay_in_class.Goals as goal

pub returns : goal.returns
returns c p steps before step rest are e = of_class p steps are before step rest e
