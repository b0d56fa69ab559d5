use Rattle.std.proofs.Common.{◌≡◌, ℕ, ◌-◌, List, sym, ap, ◌∙◌, subst, arith}
use Rattle.std.specs.Prelude.{nat_lt}
use Rattle.zms_units.specs.declared.places.VdevRow.{VdevRow}
use Rattle.vdev_map.specs.Numbers.{IsIn, number_of, row_at, metaslabs_in}
use Rattle.vdev_map.specs.declared.layout.Layout.{Layout}
use Rattle.vdev_map.specs.declared.table.MsRow.{MsRow}
use Rattle.meta_store.specs.Words.{row_of}
use Rattle.ms_core.specs.Weights.{IsWeightOfSet}
use Rattle.pool_seats.specs.Bases.{AreFirstWeights}
use Rattle.pool_seats.proofs.Weighing.{AreWeighedTo, IsFirstWeight, weighed_more, weighed_all}
use Rattle.pool_seats.proofs.weights.first_weights.Goals as goal

pub loop-number-preserved : goal.loop-number-preserved
loop-number-preserved g c =
    let vdevs : List VdevRow = c.args.store.now.layout.vdevs in
    let table = c.args.store.now.table in
    let slice = c.as_slice-vdevs.result.now in
    let same : slice ≡ vdevs = c.as_slice-vdevs.ensures ∙ ap (λ (l : Layout). l.vdevs) c.layout.ensures.layout in
    let id = c.id_of-id.result in
    let w = c.first_weight.result in
    let inside : IsIn vdevs id = subst (λ (v : List VdevRow). IsIn v id) same c.id_of-id.ensures.id in
    let place : number_of vdevs id ≡ c.loop-number.number = subst (λ (v : List VdevRow). number_of v id ≡ c.loop-number.number) same c.id_of-id.ensures.number in
    let at : IsWeightOfSet (λ u. nat_lt u ((row_at slice id.vdev).units - (row_of table id).held)) (row_at slice id.vdev).units (row_at slice id.vdev).ashift w =
    subst (λ (r : MsRow). IsWeightOfSet (λ u. nat_lt u ((row_at slice id.vdev).units - r.held)) (row_at slice id.vdev).units (row_at slice id.vdev).ashift w) c.row.ensures c.first_weight.ensures in
    let is : IsFirstWeight vdevs table id w = subst (λ (v : List VdevRow). IsWeightOfSet (λ u. nat_lt u ((row_at v id.vdev).units - (row_of table id).held)) (row_at v id.vdev).units (row_at v id.vdev).ashift w) same at in
    record {
      room = omega (arith, c.loop-number.invariant.room, c.push_reserved.ensures.capacity);
      weighed = weighed_more vdevs table c.loop-number.weights.items c.push_reserved.new.self.items c.loop-number.number id w c.loop-number.invariant.weighed c.push_reserved.ensures.items inside place is;
    }

pub returns : goal.returns
returns g c =
    let vdevs : List VdevRow = c.args.store.now.layout.vdevs in
    let table = c.args.store.now.table in
    let same : c.as_slice-vdevs.result.now ≡ vdevs = c.as_slice-vdevs.ensures ∙ ap (λ (l : Layout). l.vdevs) c.layout.ensures.layout in
    let all : c.loop-number.number ≡ metaslabs_in vdevs = omega (arith, c.loop-number.auto.number-end, c.loop-number-test.false, c.total-count.ensures, ap metaslabs_in same) in
    subst (AreFirstWeights vdevs table) (sym c.from_vec.ensures)
    (weighed_all vdevs table c.loop-number.weights.items (subst (λ (n : ℕ). AreWeighedTo vdevs table c.loop-number.weights.items n) all c.loop-number.invariant.weighed))
