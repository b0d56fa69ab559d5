use Rattle.std.proofs.Common.{◌≡◌, ◌<◌, ℕ, [], length, get_or, rules, arith, ap}
use Rattle.seg_pool.specs.Pool.{used}
use Rattle.range_tree.specs.declared.tree.Tree.{Tree}
use Rattle.range_tree.specs.Kept.{placed}
use Rattle.range_tree.proofs.Among.{blank}
use Rattle.range_tree.proofs.Empty.{empty_trees, empty_sets}
use Rattle.range_tree.proofs.trees.RangeTreesSegTrees.new.Goals as goal
use Rattle.range_tree.proofs.trees.RangeTreesSegTrees.new.Goals.{After-from_fn}

none : (c : After-from_fn) (i : ℕ) (d : Tree) → i < length c.from_fn.result → placed c.new.result (get_or c.from_fn.result i d) ≡ []
none c i d l = let t = c.from_fn.ensures.items.at i d (omega (arith, l, c.from_fn.ensures.items.long)) in search (rules, t.2)

pub invariant_of-result : goal.invariant_of-result
invariant_of-result c =
    empty_trees c.new.result c.from_fn.result (none (goal.at.invariant_of-result c).After-from_fn) (omega (arith, c.from_fn.ensures.items.long))
    (λ i d l. let t = c.from_fn.ensures.items.at i d (omega (arith, l, c.from_fn.ensures.items.long)) in search (rules, t.2)) (ap used c.new.ensures)

pub returns-clause-empty : goal.returns-clause-empty
returns-clause-empty c tree u = empty_sets c.new.result c.from_fn.result (none (goal.at.returns-clause-empty c).After-from_fn) tree u blank
