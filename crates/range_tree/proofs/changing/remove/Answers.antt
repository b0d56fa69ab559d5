use Rattle.std.proofs.Common.{◌≤◌, ◌+◌, ◌*◌, length, arith}
use Rattle.range_tree.specs.Descents.{descent}
use Rattle.range_tree.specs.Kept.{placed}
use Rattle.range_tree.proofs.Descents.{descent_low, descent_mono}
use Rattle.range_tree.proofs.Putting.{few_nodes}
use Rattle.range_tree.proofs.Joining.{touches_then}
use Rattle.range_tree.proofs.changing.remove.Goals as goal
use Rattle.range_tree.proofs.changing.remove.Goals.{After-put_part-behind}

visits : (c : After-put_part-behind) → c.holder-found.result.1 + c.take_out-taken.result.1 + c.put_part-before.result + c.put_part-behind.result ≤ 8 * descent (length (placed c.args.pool.now c.args.tree.now))
visits c =
    let first = c.take_out-taken.ensures.nodes in
    let second = c.put_part-before.ensures.nodes in
    omega (
      arith,
      c.holder-found.ensures.visits,
      c.take_out-taken.ensures.visits,
      c.put_part-before.ensures.visits,
      c.put_part-behind.ensures.visits,
      descent_mono (length (placed c.take_out-taken.new.pool c.take_out-taken.new.self)) (length (placed c.args.pool.now c.args.tree.now)) (omega (arith, first)),
      descent_mono (length (placed c.put_part-before.new.pool c.put_part-before.new.tree)) (length (placed c.args.pool.now c.args.tree.now)) (omega (arith, first, second)),
    )

pub overflow_add-result : goal.overflow_add-result
overflow_add-result c = omega (arith, visits (goal.at.overflow_add-result c).After-put_part-behind, descent_low (length (placed c.args.pool.now c.args.tree.now)), few_nodes c.requires.tree)

pub overflow_add-result-2 : goal.overflow_add-result-2
overflow_add-result-2 c = omega (arith, visits (goal.at.overflow_add-result-2 c).After-put_part-behind, descent_low (length (placed c.args.pool.now c.args.tree.now)), few_nodes c.requires.tree)

pub overflow_add-result-3 : goal.overflow_add-result-3
overflow_add-result-3 c = omega (arith, visits (goal.at.overflow_add-result-3 c).After-put_part-behind, descent_low (length (placed c.args.pool.now c.args.tree.now)), few_nodes c.requires.tree)

pub returns-clause-touches : goal.returns-clause-touches
returns-clause-touches c = touches_then (touches_then c.take_out-taken.ensures.touches c.put_part-before.ensures.touches) c.put_part-behind.ensures.touches

pub returns-clause-visits : goal.returns-clause-visits
returns-clause-visits c = visits (goal.at.returns-clause-visits c).After-put_part-behind
