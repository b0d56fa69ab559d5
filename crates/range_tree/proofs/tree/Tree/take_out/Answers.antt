use Rattle.std.proofs.Common.{◌≡◌, ◌≤◌, ◌+◌, ◌*◌, cond, refl, arith, length, ap, ◌∙◌, sym, subst, length-set}
use Rattle.std.specs.Prelude.{◌&&◌, not}
use Rattle.zms_units.specs.declared.segments.Seg.{Seg}
use Rattle.zms_units.specs.Segments.{covers}
use Rattle.seg_trees.specs.Sets.{HoldsAll}
use Rattle.range_tree.specs.Descents.{descent}
use Rattle.range_tree.specs.Kept.{seg_of, seg_at, placed, units_of, is_long_as, HoldsNoneAround}
use Rattle.range_tree.proofs.Descents.{one_descent, descent_low}
use Rattle.range_tree.proofs.Orders.{Gives}
use Rattle.range_tree.proofs.Putting.{few_nodes}
use Rattle.range_tree.proofs.Taking.{out_sizes, out_listed, out_used, out_seg, out_units, out_held, out_around, out_length, out_sum, out_tree, out_touches, listed_run, lowered, counted_one}
use Rattle.range_tree.proofs.tree.Tree.take_out.Goals as goal
use Rattle.range_tree.proofs.tree.Tree.take_out.Goals.{After-remove-by_size, After-give}

gives : (c : After-give) → Gives c.remove-by_size.new.pool c.give.new.self c.args.no.0
gives c = record {
  present = out_used c.requires.tree c.requires.listed c.remove-by_place.ensures.links c.remove-by_place.ensures.over c.remove-by_place.ensures.put c.remove-by_size.ensures.links c.remove-by_size.ensures.over c.remove-by_size.ensures.put;
  given = c.give.ensures.given;
}

run_is : (c : After-give) → seg_at c.args.pool.now c.args.no.0 ≡ c.give.result.seg
run_is c = sym (out_seg c.requires.tree c.requires.listed c.remove-by_place.ensures.links c.remove-by_place.ensures.over c.remove-by_place.ensures.put c.remove-by_size.ensures.links c.remove-by_size.ensures.over c.remove-by_size.ensures.put) ∙ ap seg_of c.give.ensures.node

pub remove-by_place-requires-clause-over : goal.remove-by_place-requires-clause-over
remove-by_place-requires-clause-over c = c.requires.tree.places

pub remove-by_size-requires-clause-over : goal.remove-by_size-requires-clause-over
remove-by_size-requires-clause-over c =
    (out_sizes c.requires.tree c.requires.listed c.remove-by_place.ensures.links c.remove-by_place.ensures.over c.remove-by_place.ensures.put).over

pub remove-by_size-requires-clause-listed : goal.remove-by_size-requires-clause-listed
remove-by_size-requires-clause-listed c =
    out_listed c.requires.tree c.requires.listed c.remove-by_place.ensures.links c.remove-by_place.ensures.over c.remove-by_place.ensures.put

pub give-requires : goal.give-requires
give-requires c =
    out_used c.requires.tree c.requires.listed c.remove-by_place.ensures.links c.remove-by_place.ensures.over c.remove-by_place.ensures.put c.remove-by_size.ensures.links c.remove-by_size.ensures.over c.remove-by_size.ensures.put

pub overflow_sub-self : goal.overflow_sub-self
overflow_sub-self c = omega (arith, c.requires.tree.nodes, c.requires.listed.1)

pub overflow_sub-self-2 : goal.overflow_sub-self-2
overflow_sub-self-2 c =
    let d = (goal.at.overflow_sub-self-2 c).After-give in
    let sum = out_sum c.requires.tree c.requires.listed c.remove-by_place.ensures.links c.remove-by_place.ensures.over c.remove-by_place.ensures.put c.remove-by_size.ensures.links c.remove-by_size.ensures.over c.remove-by_size.ensures.put (gives d) (λ (r : Seg). r.count) in
    omega (arith, sum, c.requires.tree.units, ap (λ (r : Seg). r.count) (run_is d))

pub length_bit-requires-clause-some : goal.length_bit-requires-clause-some
length_bit-requires-clause-some c =
    omega (arith, (listed_run c.requires.tree c.args.no.0 c.requires.listed).0, ap (λ (r : Seg). r.count) (run_is (goal.at.length_bit-requires-clause-some c).After-give))

pub length_bit-requires-clause-most : goal.length_bit-requires-clause-most
length_bit-requires-clause-most c =
    omega (arith, (listed_run c.requires.tree c.args.no.0 c.requires.listed).1, ap (λ (r : Seg). r.count) (run_is (goal.at.length_bit-requires-clause-most c).After-give))

pub overflow_sub-self-3 : goal.overflow_sub-self-3
overflow_sub-self-3 c =
    let d = (goal.at.overflow_sub-self-3 c).After-give in
    let e = ap (λ (r : Seg). r.count) (run_is d) in
    let sum = out_sum c.requires.tree c.requires.listed c.remove-by_place.ensures.links c.remove-by_place.ensures.over c.remove-by_place.ensures.put c.remove-by_size.ensures.links c.remove-by_size.ensures.over c.remove-by_size.ensures.put (gives d) (λ r. cond (is_long_as c.length_bit.result r) 1 0) in
    counted_one c.length_bit.result (seg_at c.args.pool.now c.args.no.0) _ _ (omega (arith, e, c.length_bit.ensures.least)) (omega (arith, e, c.length_bit.ensures.most))
    (sum ∙ sym (c.requires.tree.lengths c.length_bit.result c.length_bit.ensures.below))

visits : (c : After-remove-by_size) → c.remove-by_place.result + c.remove-by_size.result ≤ 2 * descent (length (placed c.args.pool.now c.args.self.now))
visits c =
    let one = one_descent _ _ c.remove-by_place.ensures.visits in
    let two = one_descent _ _ c.remove-by_size.ensures.visits in
    let sizes = ap (λ q. descent (length q)) (out_sizes c.requires.tree c.requires.listed c.remove-by_place.ensures.links c.remove-by_place.ensures.over c.remove-by_place.ensures.put).list in
    let many = ap descent c.requires.tree.as_many in
    omega (arith, one, two, sizes, many)

pub overflow_add-result : goal.overflow_add-result
overflow_add-result c = omega (arith, visits (goal.at.overflow_add-result c).After-remove-by_size, descent_low (length (placed c.args.pool.now c.args.self.now)), few_nodes c.requires.tree)

pub returns-clause-visits : goal.returns-clause-visits
returns-clause-visits c = visits (goal.at.returns-clause-visits c).After-remove-by_size

pub returns-clause-run : goal.returns-clause-run
returns-clause-run c = sym (run_is (goal.at.returns-clause-run c).After-give)

pub returns-clause-segment : goal.returns-clause-segment
returns-clause-segment c =
    let f = listed_run c.requires.tree c.args.no.0 c.requires.listed in
    let e = run_is (goal.at.returns-clause-segment c).After-give in
    record { some = omega (arith, f.0, ap (λ (r : Seg). r.count) e); within = omega (arith, f.1, ap (λ (r : Seg). r.count) e, ap (λ (r : Seg). r.start) e) }

pub returns-clause-held : goal.returns-clause-held
returns-clause-held c =
    let d = (goal.at.returns-clause-held c).After-give in
    subst (HoldsAll (units_of c.args.pool.now c.args.self.now)) (run_is d)
    (out_held c.requires.tree c.requires.listed c.remove-by_place.ensures.links c.remove-by_place.ensures.over c.remove-by_place.ensures.put c.remove-by_size.ensures.links c.remove-by_size.ensures.over c.remove-by_size.ensures.put (gives d))

pub returns-clause-around : goal.returns-clause-around
returns-clause-around c =
    let d = (goal.at.returns-clause-around c).After-give in
    subst (HoldsNoneAround _) (run_is d)
    (out_around c.requires.tree c.requires.listed c.remove-by_place.ensures.links c.remove-by_place.ensures.over c.remove-by_place.ensures.put c.remove-by_size.ensures.links c.remove-by_size.ensures.over c.remove-by_size.ensures.put (gives d))

pub returns-clause-units : goal.returns-clause-units
returns-clause-units c u =
    let d = (goal.at.returns-clause-units c).After-give in
    out_units c.requires.tree c.requires.listed c.remove-by_place.ensures.links c.remove-by_place.ensures.over c.remove-by_place.ensures.put c.remove-by_size.ensures.links c.remove-by_size.ensures.over c.remove-by_size.ensures.put (gives d) u
    ∙ ap (λ q. not (covers q u) && units_of c.args.pool.now c.args.self.now u) (run_is d)

pub returns-clause-touches : goal.returns-clause-touches
returns-clause-touches c =
    out_touches c.requires.tree c.requires.listed c.remove-by_place.ensures.links c.remove-by_place.ensures.over c.remove-by_place.ensures.put c.remove-by_size.ensures.links c.remove-by_size.ensures.over c.remove-by_size.ensures.put (gives (goal.at.returns-clause-touches c).After-give)

pub returns-clause-nodes : goal.returns-clause-nodes
returns-clause-nodes c =
    out_length c.requires.tree c.requires.listed c.remove-by_place.ensures.links c.remove-by_place.ensures.over c.remove-by_place.ensures.put c.remove-by_size.ensures.links c.remove-by_size.ensures.over c.remove-by_size.ensures.put (gives (goal.at.returns-clause-nodes c).After-give)

pub returns-clause-tree : goal.returns-clause-tree
returns-clause-tree c =
    let d = (goal.at.returns-clause-tree c).After-give in
    let e = ap (λ (r : Seg). r.count) (run_is d) in
    let sum = out_sum c.requires.tree c.requires.listed c.remove-by_place.ensures.links c.remove-by_place.ensures.over c.remove-by_place.ensures.put c.remove-by_size.ensures.links c.remove-by_size.ensures.over c.remove-by_size.ensures.put (gives d) (λ (r : Seg). r.count) in
    let sum_bit = out_sum c.requires.tree c.requires.listed c.remove-by_place.ensures.links c.remove-by_place.ensures.over c.remove-by_place.ensures.put c.remove-by_size.ensures.links c.remove-by_size.ensures.over c.remove-by_size.ensures.put (gives d) (λ r. cond (is_long_as c.length_bit.result r) 1 0) in
    let one = counted_one c.length_bit.result (seg_at c.args.pool.now c.args.no.0) _ _ (omega (arith, e, c.length_bit.ensures.least)) (omega (arith, e, c.length_bit.ensures.most)) (sum_bit ∙ sym (c.requires.tree.lengths c.length_bit.result c.length_bit.ensures.below)) in
    out_tree c.requires.tree c.requires.listed c.remove-by_place.ensures.links c.remove-by_place.ensures.over c.remove-by_place.ensures.put c.remove-by_size.ensures.links c.remove-by_size.ensures.over c.remove-by_size.ensures.put (gives d)
    _ refl refl (omega (arith, c.requires.tree.nodes, c.requires.listed.1)) (omega (arith, sum, c.requires.tree.units, e)) (length-set c.args.self.now.lengths c.length_bit.result _ ∙ c.requires.tree.bits)
    (λ bit below. lowered c.args.self.now.lengths bit c.length_bit.result _ (seg_at c.args.pool.now c.args.no.0) (omega (arith, c.requires.tree.bits, c.length_bit.ensures.below)) (omega (arith, e, c.length_bit.ensures.least)) (omega (arith, e, c.length_bit.ensures.most)) (omega (arith, one)))
