use Rattle.range_tree.proofs.Descents.{one_descent}
use Rattle.range_tree.proofs.Finding.{ending}
use Rattle.range_tree.proofs.looking.first_ending.Goals as goal

pub first_at_or_after-requires : goal.first_at_or_after-requires
first_at_or_after-requires c = c.requires.places

pub returns-clause-found : goal.returns-clause-found
returns-clause-found c = ending c.requires c.new-key.result c.args.unit c.first_at_or_after.result.0 c.new-key.ensures c.first_at_or_after.ensures.first

pub returns-clause-visits : goal.returns-clause-visits
returns-clause-visits c = one_descent _ _ c.first_at_or_after.ensures.visits
