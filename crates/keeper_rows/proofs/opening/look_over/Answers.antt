use Rattle.std.proofs.Common.{◌≡◌, ℕ, List, [], refl, sym, ap, ◌∙◌, subst, arith}
use Rattle.zms_units.specs.declared.segments.Seg.{Seg}
use Rattle.zms_units.specs.declared.places.VdevRow.{VdevRow}
use Rattle.zms_units.specs.Segments.{covered}
use Rattle.zms_units.specs.Runs.{AreMaximalRuns}
use Rattle.vdev_map.specs.Numbers.{IsIn, number_of, row_at, metaslabs_in}
use Rattle.vdev_map.specs.declared.layout.Layout.{Layout}
use Rattle.vdev_map.specs.declared.table.Table.{Table}
use Rattle.meta_store.specs.Words.{row_of}
use Rattle.keeper_rows.specs.Parts.{IsBase}
use Rattle.keeper_rows.proofs.Bases.{AreFoundTo, base_found, found_none, found_more, found_all}
use Rattle.keeper_rows.proofs.opening.look_over.Goals as goal

pub loop-number-init : goal.loop-number-init
loop-number-init c = record {
  table = refl;
  layout = refl;
  bases_room = c.in_ok-bases.ensures.capacity;
  counts_room = c.in_ok-held.ensures.capacity;
  found =
      subst (λ (l : List (List Seg)). AreFoundTo c.in_ok-layout.layout.vdevs l c.in_ok-held.held.items 0) (sym c.in_ok-bases.ensures.items)
      (subst (λ (l : List ℕ). AreFoundTo c.in_ok-layout.layout.vdevs [] l 0) (sym c.in_ok-held.ensures.items) (found_none c.in_ok-layout.layout.vdevs));
}

pub found-requires : goal.found-requires
found-requires c =
    let same : c.as_slice-in-loop-number.result.now ≡ c.loop-number.store.layout.vdevs =
    c.as_slice-in-loop-number.ensures ∙ (ap (λ (l : Layout). l.vdevs) (c.in_ok-layout.ensures ∙ (c.layout.ensures.layout ∙ sym c.loop-number.invariant.layout))) in
    subst (λ (v : List VdevRow). IsIn v c.id_of-id.result) same c.id_of-id.ensures.id

pub push_reserved-requires : goal.push_reserved-requires
push_reserved-requires c = omega (arith, c.loop-number.invariant.found.bases_few, c.loop-number.invariant.bases_room, c.loop-number-test.true)

pub row-requires : goal.row-requires
row-requires c =
    let same : c.as_slice-in-loop-number.result.now ≡ c.found.new.self.layout.vdevs =
    c.as_slice-in-loop-number.ensures ∙ (ap (λ (l : Layout). l.vdevs) (c.in_ok-layout.ensures ∙ (c.layout.ensures.layout ∙ (sym c.loop-number.invariant.layout ∙ sym c.in-Ok.ensures.layout)))) in
    subst (λ (v : List VdevRow). IsIn v c.id_of-id.result) same c.id_of-id.ensures.id

pub push_reserved-requires-in-loop-number : goal.push_reserved-requires-in-loop-number
push_reserved-requires-in-loop-number c = omega (arith, c.loop-number.invariant.found.counts_few, c.loop-number.invariant.counts_room, c.loop-number-test.true)

pub loop-number-preserved : goal.loop-number-preserved
loop-number-preserved c =
    let vdevs = c.in_ok-layout.layout.vdevs in
    let id = c.id_of-id.result in
    let runs = c.in-Ok.runs.items in
    let inside : IsIn vdevs id = subst (λ (v : List VdevRow). IsIn v id) c.as_slice-in-loop-number.ensures c.id_of-id.ensures.id in
    let place : number_of vdevs id ≡ c.loop-number.number = subst (λ (v : List VdevRow). number_of v id ≡ c.loop-number.number) c.as_slice-in-loop-number.ensures c.id_of-id.ensures.number in
    let rows : c.loop-number.store.table.vdevs ≡ vdevs =
    ap (λ (x : Table). x.vdevs) c.loop-number.invariant.table ∙ (c.layout.ensures.table.vdevs ∙ sym (ap (λ (l : Layout). l.vdevs) (c.in_ok-layout.ensures ∙ c.layout.ensures.layout))) in
    let maximal : AreMaximalRuns (covered runs) (row_at vdevs id.vdev).units runs = subst (λ (v : List VdevRow). AreMaximalRuns (covered runs) (row_at v id.vdev).units runs) rows c.in-Ok.ensures.maximal in
    let count = ap (λ r. r.held) (c.row.ensures ∙ ap (λ (x : Table). row_of x id) c.in-Ok.ensures.table) in
    record {
      table = c.in-Ok.ensures.table ∙ c.loop-number.invariant.table;
      layout = c.in-Ok.ensures.layout ∙ c.loop-number.invariant.layout;
      bases_room = omega (arith, c.loop-number.invariant.bases_room, c.push_reserved.ensures.capacity);
      counts_room = omega (arith, c.loop-number.invariant.counts_room, c.push_reserved-in-loop-number.ensures.capacity);
      found =
          found_more vdevs c.loop-number.bases.items c.push_reserved.new.self.items c.loop-number.held.items c.push_reserved-in-loop-number.new.self.items c.loop-number.number id c.from_vec.result c.row.result.now.held
          c.loop-number.invariant.found c.push_reserved.ensures.items c.push_reserved-in-loop-number.ensures.items inside place
          (subst (λ (l : List Seg). IsBase (row_at vdevs id.vdev).units l c.row.result.now.held) (sym c.from_vec.ensures) (base_found (row_at vdevs id.vdev).units c.row.result.now.held runs maximal (c.in-Ok.ensures.count ∙ sym count)));
    }

pub returns-clause-found : goal.returns-clause-found
returns-clause-found c =
    let vdevs = c.in_ok-layout.layout.vdevs in
    let all : c.loop-number.number ≡ metaslabs_in vdevs = omega (arith, c.loop-number.auto.number-end, c.loop-number-test.false, c.total-count.ensures, ap metaslabs_in c.as_slice.ensures) in
    found_all vdevs c.loop-number.bases.items c.loop-number.held.items (subst (λ (n : ℕ). AreFoundTo vdevs c.loop-number.bases.items c.loop-number.held.items n) all c.loop-number.invariant.found)
