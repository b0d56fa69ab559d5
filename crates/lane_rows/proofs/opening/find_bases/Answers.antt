use Rattle.std.proofs.Common.{◌≡◌, ℕ, List, refl, sym, ap, ◌∙◌, subst, arith}
use Rattle.zms_units.specs.declared.segments.Seg.{Seg}
use Rattle.zms_units.specs.declared.places.VdevRow.{VdevRow}
use Rattle.zms_units.specs.Segments.{covered, total_of}
use Rattle.zms_units.specs.Runs.{AreMaximalRuns}
use Rattle.vdev_map.specs.Numbers.{IsIn, number_of, row_at, metaslabs_in}
use Rattle.vdev_map.specs.declared.layout.Layout.{Layout}
use Rattle.vdev_map.specs.declared.table.Table.{Table}
use Rattle.meta_store.specs.Words.{row_of}
use Rattle.pool_seats.specs.Bases.{AreBasesOf}
use Rattle.lane_rows.proofs.Finding.{IsBase, AreFoundTo, base_found, found_none, found_more, found_all}
use Rattle.lane_rows.proofs.opening.find_bases.Goals as goal

pub loop-number-init : goal.loop-number-init
loop-number-init c = record {
  table = refl;
  layout = refl;
  room = c.in_ok-bases.ensures.capacity;
  found = subst (λ (l : List (List Seg)). AreFoundTo c.in_ok-layout.layout.vdevs c.args.store.now.table l 0) (sym c.in_ok-bases.ensures.items) (found_none c.in_ok-layout.layout.vdevs c.args.store.now.table);
}

pub found-requires : goal.found-requires
found-requires c =
    let same : c.as_slice-in-loop-number.result.now ≡ c.loop-number.store.layout.vdevs =
    c.as_slice-in-loop-number.ensures ∙ (ap (λ (l : Layout). l.vdevs) (c.in_ok-layout.ensures ∙ (c.layout.ensures.layout ∙ sym c.loop-number.invariant.layout))) in
    subst (λ (v : List VdevRow). IsIn v c.id_of-id.result) same c.id_of-id.ensures.id

pub push_reserved-requires : goal.push_reserved-requires
push_reserved-requires c = omega (arith, c.loop-number.invariant.found.count, c.loop-number.invariant.room, c.loop-number-test.true)

pub loop-number-preserved : goal.loop-number-preserved
loop-number-preserved c =
    let vdevs = c.in_ok-layout.layout.vdevs in
    let table = c.args.store.now.table in
    let id = c.id_of-id.result in
    let runs = c.in-Ok.runs.items in
    let inside : IsIn vdevs id = subst (λ (v : List VdevRow). IsIn v id) c.as_slice-in-loop-number.ensures c.id_of-id.ensures.id in
    let place : number_of vdevs id ≡ c.loop-number.number = subst (λ (v : List VdevRow). number_of v id ≡ c.loop-number.number) c.as_slice-in-loop-number.ensures c.id_of-id.ensures.number in
    let rows : c.loop-number.store.table.vdevs ≡ vdevs =
    ap (λ (x : Table). x.vdevs) c.loop-number.invariant.table ∙ (c.layout.ensures.table.vdevs ∙ sym (ap (λ (l : Layout). l.vdevs) (c.in_ok-layout.ensures ∙ c.layout.ensures.layout))) in
    let maximal : AreMaximalRuns (covered runs) (row_at vdevs id.vdev).units runs = subst (λ (v : List VdevRow). AreMaximalRuns (covered runs) (row_at v id.vdev).units runs) rows c.in-Ok.ensures.maximal in
    let count : total_of runs ≡ (row_of table id).held = c.in-Ok.ensures.count ∙ ap (λ (x : Table). (row_of x id).held) c.loop-number.invariant.table in
    record {
      table = c.in-Ok.ensures.table ∙ c.loop-number.invariant.table;
      layout = c.in-Ok.ensures.layout ∙ c.loop-number.invariant.layout;
      room = omega (arith, c.loop-number.invariant.room, c.push_reserved.ensures.capacity);
      found =
          found_more vdevs table c.loop-number.bases.items c.push_reserved.new.self.items c.loop-number.number id c.from_vec.result c.loop-number.invariant.found c.push_reserved.ensures.items inside place
          (subst (λ (l : List Seg). IsBase vdevs table id l) (sym c.from_vec.ensures) (base_found vdevs table id runs maximal count));
    }

pub returns : goal.returns
returns c =
    let vdevs = c.in_ok-layout.layout.vdevs in
    let table = c.args.store.now.table in
    let all : c.loop-number.number ≡ metaslabs_in vdevs = omega (arith, c.loop-number.auto.number-end, c.loop-number-test.false, c.total-count.ensures, ap metaslabs_in c.as_slice.ensures) in
    let here : AreBasesOf vdevs table c.loop-number.bases.items = found_all vdevs table c.loop-number.bases.items (subst (λ (n : ℕ). AreFoundTo vdevs table c.loop-number.bases.items n) all c.loop-number.invariant.found) in
    let same : vdevs ≡ c.loop-number.store.layout.vdevs = ap (λ (l : Layout). l.vdevs) (c.in_ok-layout.ensures ∙ (c.layout.ensures.layout ∙ sym c.loop-number.invariant.layout)) in
    subst (λ (t : Table). AreBasesOf c.loop-number.store.layout.vdevs t c.loop-number.bases.items) (sym c.loop-number.invariant.table) (subst (λ (v : List VdevRow). AreBasesOf v table c.loop-number.bases.items) same here)
