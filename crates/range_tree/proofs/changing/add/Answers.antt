use Rattle.std.proofs.Common.{length, arith}
use Rattle.range_tree.specs.Kept.{placed}
use Rattle.range_tree.proofs.Descents.{descent_low, descent_mono}
use Rattle.range_tree.proofs.Putting.{few_nodes}
use Rattle.range_tree.proofs.Joining.{touches_then}
use Rattle.range_tree.proofs.changing.add.Goals as goal

pub overflow_add-result : goal.overflow_add-result
overflow_add-result c = omega (arith, c.first_ending-found.ensures.visits, c.put-visits.ensures.visits, descent_low (length (placed c.args.pool.now c.args.tree.now)), few_nodes c.requires.tree)

pub overflow_add-result-2 : goal.overflow_add-result-2
overflow_add-result-2 c = omega (arith, c.first_ending-found.ensures.visits, c.join_left-start.ensures.visits, descent_low (length (placed c.args.pool.now c.args.tree.now)), few_nodes c.requires.tree)

pub overflow_add-result-3 : goal.overflow_add-result-3
overflow_add-result-3 c =
    let first = c.join_left-start.ensures.nodes in
    omega (
      arith,
      c.first_ending-found.ensures.visits,
      c.join_left-start.ensures.visits,
      c.join_right-end.ensures.visits,
      descent_mono (length (placed c.join_left-start.new.pool c.join_left-start.new.tree)) (length (placed c.args.pool.now c.args.tree.now)) first,
      descent_low (length (placed c.args.pool.now c.args.tree.now)),
      few_nodes c.requires.tree,
    )

pub overflow_add-result-4 : goal.overflow_add-result-4
overflow_add-result-4 c =
    let first = c.join_left-start.ensures.nodes in
    let second = c.join_right-end.ensures.nodes in
    omega (
      arith,
      c.first_ending-found.ensures.visits,
      c.join_left-start.ensures.visits,
      c.join_right-end.ensures.visits,
      c.put-visits-2.ensures.visits,
      descent_mono (length (placed c.join_left-start.new.pool c.join_left-start.new.tree)) (length (placed c.args.pool.now c.args.tree.now)) first,
      descent_mono (length (placed c.join_right-end.new.pool c.join_right-end.new.tree)) (length (placed c.args.pool.now c.args.tree.now)) (omega (arith, first, second)),
      descent_low (length (placed c.args.pool.now c.args.tree.now)),
      few_nodes c.requires.tree,
    )

pub returns-clause-touches : goal.returns-clause-touches
returns-clause-touches c = touches_then (touches_then c.join_left-start.ensures.touches c.join_right-end.ensures.touches) c.put-visits-2.ensures.touches

pub returns-clause-visits : goal.returns-clause-visits
returns-clause-visits c =
    let first = c.join_left-start.ensures.nodes in
    let second = c.join_right-end.ensures.nodes in
    omega (
      arith,
      c.first_ending-found.ensures.visits,
      c.join_left-start.ensures.visits,
      c.join_right-end.ensures.visits,
      c.put-visits-2.ensures.visits,
      descent_mono (length (placed c.join_left-start.new.pool c.join_left-start.new.tree)) (length (placed c.args.pool.now c.args.tree.now)) first,
      descent_mono (length (placed c.join_right-end.new.pool c.join_right-end.new.tree)) (length (placed c.args.pool.now c.args.tree.now)) (omega (arith, first, second)),
    )
