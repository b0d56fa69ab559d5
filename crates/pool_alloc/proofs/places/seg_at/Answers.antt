use Rattle.std.proofs.Common.{◌≡◌, ◌*◌, ◌/◌, ◌^◌, ◌<◌, length, rules, refl, ap, subst, ◌∙◌, arith}
use Rattle.std.proofs.lemmas.Nat.{mod_below}
use Rattle.zms_units.specs.declared.places.VdevRow.{VdevRow}
use Rattle.vdev_map.specs.Numbers.{row_at}
use Rattle.ms_cell.specs.Turns.{Turns, AreCells}
use Rattle.pool_alloc.proofs.SegPlaces.{some_units_there, seg_there, size_some, is_whole, at_whole_is, is_inside, is_fitting}
use Rattle.pool_alloc.proofs.places.seg_at.Goals as goal
use Rattle.pool_alloc.proofs.places.seg_at.Goals.{then-size-eq0-via-then-size-eq0, then-size-eq0-via-else-size-eq0+then-size-unit-ne0, then-size-eq0-via-else-size-eq0+else-size-unit-ne0+then-offset-unit-ne0, then-index-from-via-then-index-from, then-index-from-via-else-index-from+then-count-from}

pub returns-then-size-eq0-clause-none : goal.returns-then-size-eq0-clause-none
returns-then-size-eq0-clause-none g c =
    let vdevs = c.args.cells.now.vdevs in
    let cells : AreCells c.args.cells.now = subst (λ (t : Turns). AreCells t) c.cells.view_is c.cells.invariant in
    let row : c.in-Some.row.now ≡ row_at c.args.cells.now.vdevs c.args.vdev = search rules in
    let lt : c.args.vdev < length c.args.cells.now.vdevs = search rules in
    let is : c.bytes_of-unit.result ≡ 1 * 2 ^ (row_at c.args.cells.now.vdevs c.args.vdev).ashift = c.bytes_of-unit.ensures ∙ ap (λ (r : VdevRow). 1 * 2 ^ r.ashift) row in (
      lt,
      λ id seg at. elim c.then-size-eq0.branch [
        | then-size-eq0-via-then-size-eq0 w ↦ size_some vdevs cells.vdevs c.args.vdev c.args.offset c.args.size c.bytes_of-unit.result (row_at vdevs c.args.vdev).units (row_at vdevs c.args.vdev).units lt is refl refl id seg at w.if-size-eq0.true
        | then-size-eq0-via-else-size-eq0+then-size-unit-ne0 w ↦ absurd (w.if-size-unit-ne0.true (is_whole vdevs cells.vdevs c.args.vdev c.args.offset c.args.size c.bytes_of-unit.result (row_at vdevs c.args.vdev).units (row_at vdevs c.args.vdev).units lt is refl refl id seg at))
        | then-size-eq0-via-else-size-eq0+else-size-unit-ne0+then-offset-unit-ne0 w ↦ absurd (w.if-offset-unit-ne0.true (at_whole_is vdevs cells.vdevs c.args.vdev c.args.offset c.args.size c.bytes_of-unit.result (row_at vdevs c.args.vdev).units (row_at vdevs c.args.vdev).units lt is refl refl id seg at))
      ],
    )

pub nonzero_div-index : goal.nonzero_div-index
nonzero_div-index g c =
    let vdevs = c.args.cells.now.vdevs in
    let cells : AreCells c.args.cells.now = subst (λ (t : Turns). AreCells t) c.cells.view_is c.cells.invariant in
    let row : c.in-Some.row.now ≡ row_at c.args.cells.now.vdevs c.args.vdev = search rules in
    let lt : c.args.vdev < length c.args.cells.now.vdevs = search rules in
    let is : c.bytes_of-unit.result ≡ 1 * 2 ^ (row_at c.args.cells.now.vdevs c.args.vdev).ashift = c.bytes_of-unit.ensures ∙ ap (λ (r : VdevRow). 1 * 2 ^ r.ashift) row in
    let n_is : c.from.result ≡ (row_at c.args.cells.now.vdevs c.args.vdev).units = c.from.ensures ∙ ap (λ (r : VdevRow). r.units) row in
    omega (arith, n_is, some_units_there vdevs cells.vdevs c.args.vdev c.args.offset c.args.size c.bytes_of-unit.result (row_at vdevs c.args.vdev).units (row_at vdevs c.args.vdev).units lt is refl refl)

pub nonzero_rem-start : goal.nonzero_rem-start
nonzero_rem-start g c =
    let vdevs = c.args.cells.now.vdevs in
    let cells : AreCells c.args.cells.now = subst (λ (t : Turns). AreCells t) c.cells.view_is c.cells.invariant in
    let row : c.in-Some.row.now ≡ row_at c.args.cells.now.vdevs c.args.vdev = search rules in
    let lt : c.args.vdev < length c.args.cells.now.vdevs = search rules in
    let is : c.bytes_of-unit.result ≡ 1 * 2 ^ (row_at c.args.cells.now.vdevs c.args.vdev).ashift = c.bytes_of-unit.ensures ∙ ap (λ (r : VdevRow). 1 * 2 ^ r.ashift) row in
    let n2_is : c.from-2.result ≡ (row_at c.args.cells.now.vdevs c.args.vdev).units = c.from-2.ensures ∙ ap (λ (r : VdevRow). r.units) row in
    omega (arith, n2_is, some_units_there vdevs cells.vdevs c.args.vdev c.args.offset c.args.size c.bytes_of-unit.result (row_at vdevs c.args.vdev).units (row_at vdevs c.args.vdev).units lt is refl refl)

pub overflow_sub-from : goal.overflow_sub-from
overflow_sub-from g c =
    let vdevs = c.args.cells.now.vdevs in
    let cells : AreCells c.args.cells.now = subst (λ (t : Turns). AreCells t) c.cells.view_is c.cells.invariant in
    let row : c.in-Some.row.now ≡ row_at c.args.cells.now.vdevs c.args.vdev = search rules in
    let lt : c.args.vdev < length c.args.cells.now.vdevs = search rules in
    let is : c.bytes_of-unit.result ≡ 1 * 2 ^ (row_at c.args.cells.now.vdevs c.args.vdev).ashift = c.bytes_of-unit.ensures ∙ ap (λ (r : VdevRow). 1 * 2 ^ r.ashift) row in
    let n2_is : c.from-2.result ≡ (row_at c.args.cells.now.vdevs c.args.vdev).units = c.from-2.ensures ∙ ap (λ (r : VdevRow). r.units) row in
    let f_is : c.from-else-index-from.result ≡ (row_at c.args.cells.now.vdevs c.args.vdev).units = c.from-else-index-from.ensures ∙ ap (λ (r : VdevRow). r.units) row in
    let positive : 0 < c.from-2.result = omega (arith, n2_is, some_units_there vdevs cells.vdevs c.args.vdev c.args.offset c.args.size c.bytes_of-unit.result (row_at vdevs c.args.vdev).units (row_at vdevs c.args.vdev).units lt is refl refl) in
    omega (arith, mod_below (c.args.offset / c.bytes_of-unit.result) c.from-2.result positive, n2_is, f_is)

pub returns-then-index-from-clause-none : goal.returns-then-index-from-clause-none
returns-then-index-from-clause-none g c =
    let vdevs = c.args.cells.now.vdevs in
    let cells : AreCells c.args.cells.now = subst (λ (t : Turns). AreCells t) c.cells.view_is c.cells.invariant in
    let row : c.in-Some.row.now ≡ row_at c.args.cells.now.vdevs c.args.vdev = search rules in
    let lt : c.args.vdev < length c.args.cells.now.vdevs = search rules in
    let is : c.bytes_of-unit.result ≡ 1 * 2 ^ (row_at c.args.cells.now.vdevs c.args.vdev).ashift = c.bytes_of-unit.ensures ∙ ap (λ (r : VdevRow). 1 * 2 ^ r.ashift) row in
    let n_is : c.from.result ≡ (row_at c.args.cells.now.vdevs c.args.vdev).units = c.from.ensures ∙ ap (λ (r : VdevRow). r.units) row in
    let n2_is : c.from-2.result ≡ (row_at c.args.cells.now.vdevs c.args.vdev).units = c.from-2.ensures ∙ ap (λ (r : VdevRow). r.units) row in
    let m_is : c.from-3.result ≡ (row_at c.args.cells.now.vdevs c.args.vdev).metaslabs = c.from-3.ensures ∙ ap (λ (r : VdevRow). r.metaslabs) row in (
      lt,
      λ id seg at. elim c.then-index-from.branch [
        | then-index-from-via-then-index-from w ↦ absurd (omega (arith, w.if-index-from.true, m_is, is_inside vdevs cells.vdevs c.args.vdev c.args.offset c.args.size c.bytes_of-unit.result c.from.result c.from-2.result lt is n_is n2_is id seg at))
        | then-index-from-via-else-index-from+then-count-from w ↦
            let f_is : w.from-else-index-from.result ≡ (row_at c.args.cells.now.vdevs c.args.vdev).units = w.from-else-index-from.ensures ∙ ap (λ (r : VdevRow). r.units) row in
            absurd (omega (arith, w.if-count-from.true, f_is, is_fitting vdevs cells.vdevs c.args.vdev c.args.offset c.args.size c.bytes_of-unit.result c.from.result c.from-2.result lt is n_is n2_is id seg at))
      ],
    )

pub returns-clause-found : goal.returns-clause-found
returns-clause-found g c =
    let vdevs = c.args.cells.now.vdevs in
    let cells : AreCells c.args.cells.now = subst (λ (t : Turns). AreCells t) c.cells.view_is c.cells.invariant in
    let row : c.in-Some.row.now ≡ row_at c.args.cells.now.vdevs c.args.vdev = search rules in
    let lt : c.args.vdev < length c.args.cells.now.vdevs = search rules in
    let is : c.bytes_of-unit.result ≡ 1 * 2 ^ (row_at c.args.cells.now.vdevs c.args.vdev).ashift = c.bytes_of-unit.ensures ∙ ap (λ (r : VdevRow). 1 * 2 ^ r.ashift) row in
    let n_is : c.from.result ≡ (row_at c.args.cells.now.vdevs c.args.vdev).units = c.from.ensures ∙ ap (λ (r : VdevRow). r.units) row in
    let n2_is : c.from-2.result ≡ (row_at c.args.cells.now.vdevs c.args.vdev).units = c.from-2.ensures ∙ ap (λ (r : VdevRow). r.units) row in
    let m_is : c.from-3.result ≡ (row_at c.args.cells.now.vdevs c.args.vdev).metaslabs = c.from-3.ensures ∙ ap (λ (r : VdevRow). r.metaslabs) row in
    let f_is : c.from-else-index-from.result ≡ (row_at c.args.cells.now.vdevs c.args.vdev).units = c.from-else-index-from.ensures ∙ ap (λ (r : VdevRow). r.units) row in
    seg_there vdevs cells.vdevs c.args.vdev c.args.offset c.args.size c.bytes_of-unit.result c.from.result c.from-2.result lt is n_is n2_is c.if-size-eq0.false c.if-size-unit-ne0.false c.if-offset-unit-ne0.false (omega (arith, c.if-index-from.false, m_is)) (omega (arith, c.if-count-from.false, f_is))
