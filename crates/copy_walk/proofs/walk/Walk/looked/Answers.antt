use Rattle.std.proofs.Common.{◌∙◌}
use Rattle.copy_walk.specs.Walked.{walk_state}
use Rattle.copy_walk.proofs.Keeping.{looked_from, few_marked}
use Rattle.copy_walk.proofs.walk.Walk.looked.Goals as goal

pub returns-clause-count : goal.returns-clause-count
returns-clause-count c = λ steps told. c.count.ensures ∙ looked_from (walk_state c.self.inside) c.args.self.now c.self.view_is c.self.invariant steps told

pub returns-clause-few : goal.returns-clause-few
returns-clause-few c = few_marked (walk_state c.self.inside) _ c.self.invariant c.count.ensures
