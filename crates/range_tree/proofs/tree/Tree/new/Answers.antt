use Rattle.std.proofs.Common.{refl}
use Rattle.range_tree.specs.Nodes.{place_rules}
use Rattle.range_tree.proofs.Empty.{empty_tree, no_list}
use Rattle.range_tree.proofs.tree.Tree.new.Goals as goal

pub returns-clause-tree : goal.returns-clause-tree
returns-clause-tree c pool = empty_tree pool _ c.new.ensures c.new-2.ensures refl refl refl

pub returns-clause-empty : goal.returns-clause-empty
returns-clause-empty c pool = no_list place_rules pool c.new.result.root c.new.ensures
