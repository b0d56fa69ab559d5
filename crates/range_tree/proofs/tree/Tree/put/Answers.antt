use Rattle.std.proofs.Common.{◌≤◌, ◌+◌, ◌*◌, refl, arith, length, ap, ◌∙◌, length-set}
use Rattle.range_tree.specs.Descents.{descent}
use Rattle.range_tree.specs.Kept.{placed}
use Rattle.range_tree.proofs.Descents.{one_descent, descent_low}
use Rattle.range_tree.proofs.Orders.{Takes}
use Rattle.range_tree.proofs.Putting.{places_then, places_differ, sizes_then, sizes_next, sizes_differ, put_units, put_length, put_tree, put_touches, few_nodes, few_units, few_alike, raised}
use Rattle.range_tree.proofs.tree.Tree.put.Goals as goal
use Rattle.range_tree.proofs.tree.Tree.put.Goals.{After-take-no, After-insert-by_size}

took : (c : After-take-no) → Takes c.args.pool.now c.take-no.new.self c.take-no.result.0 c.new.result
took c = record { vacant = c.take-no.ensures.vacant; place = c.take-no.ensures.place; taken = c.take-no.ensures.taken }

pub insert-by_place-requires-clause-over : goal.insert-by_place-requires-clause-over
insert-by_place-requires-clause-over c =
    (places_then c.requires.tree c.requires.around c.requires.segment c.new.ensures (took (goal.at.insert-by_place-requires-clause-over c).After-take-no)).over

pub insert-by_place-requires-clause-differs : goal.insert-by_place-requires-clause-differs
insert-by_place-requires-clause-differs c =
    places_differ c.requires.tree c.requires.around c.requires.segment c.new.ensures (took (goal.at.insert-by_place-requires-clause-differs c).After-take-no)

pub insert-by_size-requires-clause-over : goal.insert-by_size-requires-clause-over
insert-by_size-requires-clause-over c =
    (sizes_next c.requires.tree c.requires.around c.requires.segment c.new.ensures (took (goal.at.insert-by_size-requires-clause-over c).After-take-no) c.insert-by_place.ensures.links c.insert-by_place.ensures.over c.insert-by_place.ensures.put).over

pub insert-by_size-requires-clause-differs : goal.insert-by_size-requires-clause-differs
insert-by_size-requires-clause-differs c =
    sizes_differ c.requires.tree c.requires.around c.requires.segment c.new.ensures (took (goal.at.insert-by_size-requires-clause-differs c).After-take-no) c.insert-by_place.ensures.links c.insert-by_place.ensures.over c.insert-by_place.ensures.put

pub overflow_add-self : goal.overflow_add-self
overflow_add-self c = omega (arith, few_nodes c.requires.tree, c.requires.tree.nodes)

pub overflow_add-self-2 : goal.overflow_add-self-2
overflow_add-self-2 c = omega (arith, few_units c.requires.tree, c.requires.segment.within)

pub returns-clause-units : goal.returns-clause-units
returns-clause-units c =
    put_units c.requires.tree c.requires.around c.requires.segment c.new.ensures (took (goal.at.returns-clause-units c).After-take-no) c.insert-by_place.ensures.links c.insert-by_place.ensures.over c.insert-by_place.ensures.put c.insert-by_size.ensures.links c.insert-by_size.ensures.over c.insert-by_size.ensures.put

pub returns-clause-touches : goal.returns-clause-touches
returns-clause-touches c =
    put_touches c.requires.tree c.requires.around c.requires.segment c.new.ensures (took (goal.at.returns-clause-touches c).After-take-no) c.insert-by_place.ensures.links c.insert-by_place.ensures.over c.insert-by_place.ensures.put c.insert-by_size.ensures.links c.insert-by_size.ensures.over c.insert-by_size.ensures.put c.requires.spare

pub returns-clause-nodes : goal.returns-clause-nodes
returns-clause-nodes c =
    put_length c.requires.tree c.requires.around c.requires.segment c.new.ensures (took (goal.at.returns-clause-nodes c).After-take-no) c.insert-by_place.ensures.links c.insert-by_place.ensures.over c.insert-by_place.ensures.put c.insert-by_size.ensures.links c.insert-by_size.ensures.over c.insert-by_size.ensures.put

visits : (c : After-insert-by_size) → c.insert-by_place.result + c.insert-by_size.result ≤ 2 * descent (length (placed c.args.pool.now c.args.self.now))
visits c =
    let k : Takes c.args.pool.now c.take-no.new.self c.take-no.result.0 c.new.result = record { vacant = c.take-no.ensures.vacant; place = c.take-no.ensures.place; taken = c.take-no.ensures.taken } in
    let t = c.requires.tree in
    let one = one_descent _ _ c.insert-by_place.ensures.visits in
    let two = one_descent _ _ c.insert-by_size.ensures.visits in
    let places = ap (λ q. descent (length q)) (places_then t c.requires.around c.requires.segment c.new.ensures k).list in
    let sizes = ap (λ q. descent (length q)) ((sizes_next t c.requires.around c.requires.segment c.new.ensures k c.insert-by_place.ensures.links c.insert-by_place.ensures.over c.insert-by_place.ensures.put).list ∙ (sizes_then t c.requires.around c.requires.segment c.new.ensures k).list) in
    let many = ap descent t.as_many in
    omega (arith, one, two, places, sizes, many)

pub returns-clause-visits : goal.returns-clause-visits
returns-clause-visits c = visits (goal.at.returns-clause-visits c).After-insert-by_size

pub overflow_add-result : goal.overflow_add-result
overflow_add-result c = omega (arith, visits (goal.at.overflow_add-result c).After-insert-by_size, descent_low (length (placed c.args.pool.now c.args.self.now)), few_nodes c.requires.tree)

pub returns-clause-tree : goal.returns-clause-tree
returns-clause-tree c =
    put_tree c.requires.tree c.requires.around c.requires.segment c.new.ensures (took (goal.at.returns-clause-tree c).After-take-no) c.insert-by_place.ensures.links c.insert-by_place.ensures.over c.insert-by_place.ensures.put c.insert-by_size.ensures.links c.insert-by_size.ensures.over c.insert-by_size.ensures.put
    _ refl refl refl refl (length-set c.args.self.now.lengths c.length_bit.result _ ∙ c.requires.tree.bits) (λ bit below. raised c.args.self.now.lengths bit c.length_bit.result _ c.args.run (omega (arith, c.requires.tree.bits, c.length_bit.ensures.below)) c.length_bit.ensures.least c.length_bit.ensures.most refl)

pub length_bit-requires-clause-most : goal.length_bit-requires-clause-most
length_bit-requires-clause-most c = omega (arith, c.requires.segment.within)

pub overflow_add-self-3 : goal.overflow_add-self-3
overflow_add-self-3 c = omega (arith, few_alike c.requires.tree c.length_bit.result c.length_bit.ensures.below)
