-- The first weights, metaslab by metaslab.
use Rattle.std.proofs.Common.{◌≡◌, ℕ, ◌+◌, ◌-◌, ⊎_elim, List, [], ◌∷◌, ◌++◌, length, length-append, refl, sym, ap, ◌∙◌, subst, arith, Some}
use Rattle.std.specs.Prelude.{nat_lt, slice_get}
use Rattle.std.proofs.lemmas.Option.{slice_get_within, get_or_from_slice_get}
use Rattle.zms_units.specs.declared.places.MsId.{MsId}
use Rattle.zms_units.specs.declared.places.VdevRow.{VdevRow}
use Rattle.vdev_map.specs.Numbers.{IsIn, number_of, row_at, metaslabs_in}
use Rattle.vdev_map.specs.declared.table.Table.{Table}
use Rattle.vdev_map.proofs.InOrder.{one_number}
use Rattle.turn_passes.proofs.Pairs.{get_push, some_at}
use Rattle.meta_store.specs.Words.{row_of}
use Rattle.ms_core.specs.Weights.{IsWeightOfSet}
use Rattle.pool_keeper.proofs.Remembering.{number_within}
use Rattle.pool_seats.specs.Bases.{AreFirstWeights}

-- what a metaslab weighs, of which the table's group holds so many units
abbrev pub IsFirstWeight : List VdevRow → Table → MsId → ℕ → Type 0
IsFirstWeight vdevs table id weight = IsWeightOfSet (λ u. nat_lt u ((row_at vdevs id.vdev).units - (row_of table id).held)) (row_at vdevs id.vdev).units (row_at vdevs id.vdev).ashift weight

-- those of the first few metaslabs, in order
pub record AreWeighedTo (vdevs : List VdevRow) (table : Table) (weights : List ℕ) (few : ℕ) : Type 0 where
  pub count : length weights ≡ few
  pub each : (id : MsId) (weight : ℕ) → IsIn vdevs id → slice_get weights (number_of vdevs id) ≡ Some weight → IsFirstWeight vdevs table id weight

pub weighed_none : (vdevs : List VdevRow) (table : Table) → AreWeighedTo vdevs table [] 0
weighed_none vdevs table = record { count = refl; each = λ id weight inside at. absurd (omega (arith, slice_get_within [] (number_of vdevs id) weight at)) }

pub weighed_more : (vdevs : List VdevRow) (table : Table) (weights more : List ℕ) (few : ℕ) (id : MsId) (weight : ℕ) → AreWeighedTo vdevs table weights few → more ≡ weights ++ weight ∷ []
    → IsIn vdevs id → number_of vdevs id ≡ few → IsFirstWeight vdevs table id weight → AreWeighedTo vdevs table more (few + 1)
weighed_more vdevs table weights more few id weight so_far grows inside place is = record {
  count = omega (arith, ap length grows, length-append weights (weight ∷ []), so_far.count);
  each = λ i w in_ at.
      ⊎_elim
      (λ (t : slice_get weights (number_of vdevs i) ≡ Some w). so_far.each i w in_ t)
      (λ (t : (number_of vdevs i ≡ length weights) × (weight ≡ w)).
      subst (λ (m : MsId). IsFirstWeight vdevs table m w) (sym (one_number vdevs id i inside in_ (t.0 ∙ (so_far.count ∙ sym place))))
      (subst (λ (m : ℕ). IsFirstWeight vdevs table id m) t.1 is))
      (get_push weights weight (number_of vdevs i) w (subst (λ (l : List ℕ). slice_get l (number_of vdevs i) ≡ Some w) grows at));
}

pub weighed_all : (vdevs : List VdevRow) (table : Table) (weights : List ℕ) → AreWeighedTo vdevs table weights (metaslabs_in vdevs) → AreFirstWeights vdevs table weights
weighed_all vdevs table weights w = record {
  count = w.count;
  each = λ id inside.
      let k = number_of vdevs id in
      let x = some_at weights k (omega (arith, number_within vdevs id inside, w.count)) in
      subst (λ (n : ℕ). IsFirstWeight vdevs table id n) (sym (get_or_from_slice_get weights k x.0 0 x.1)) (w.each id x.0 inside x.1);
}
