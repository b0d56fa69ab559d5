use Rattle.std.proofs.Common.{◌≤◌, ◌∙◌, arith}
use Rattle.std.proofs.lemmas.List.Elements.{AllWithin-more_set}
use Rattle.seg_trees.specs.OneSet.{OneSet}
use Rattle.seg_trees.proofs.Elements.{same_lists, more_room}
use Rattle.seg_trees.proofs.plain.reserve_each.Goals as goal

pub returns-in_err-reserve-clause-lists : goal.returns-in_err-reserve-clause-lists
returns-in_err-reserve-clause-lists c =
    same_lists c.loop-tree.trees c.loop-tree.tree-index c.reserve.new.self _ (omega arith) c.reserve.ensures.runs ∙ c.loop-tree.invariant.lists

pub returns-in_err-reserve-clause-capacity : goal.returns-in_err-reserve-clause-capacity
returns-in_err-reserve-clause-capacity c =
    λ least a. more_room c.loop-tree.trees c.loop-tree.tree-index least c.reserve.new.self _ (omega arith) c.reserve.ensures.capacity (c.loop-tree.invariant.more least a)

pub loop-tree-preserved : goal.loop-tree-preserved
loop-tree-preserved c =
    record {
      lists = same_lists c.loop-tree.trees c.loop-tree.tree-index c.reserve.new.self _ (omega arith) c.reserve.ensures.runs ∙ c.loop-tree.invariant.lists;
      more = λ least a. more_room c.loop-tree.trees c.loop-tree.tree-index least c.reserve.new.self _ (omega arith) c.reserve.ensures.capacity (c.loop-tree.invariant.more least a);
      done = λ k d l. AllWithin-more_set c.loop-tree.trees c.loop-tree.tree-index c.reserve.new.self (omega arith) (λ (t : OneSet). c.args.runs ≤ t.capacity)
          (λ j e m n. c.loop-tree.invariant.done j e n) c.in_ok-reserve.ensures.ok k d (omega arith) l;
    }
