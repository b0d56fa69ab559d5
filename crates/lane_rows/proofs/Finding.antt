-- The bases of a store, metaslab by metaslab.
use Rattle.std.proofs.Common.{◌≡◌, ℕ, ◌+◌, ⊎_elim, List, [], ◌∷◌, ◌++◌, length, length-append, refl, sym, ap, ◌∙◌, subst, arith, Some}
use Rattle.std.specs.Prelude.{slice_get}
use Rattle.std.proofs.lemmas.Option.{slice_get_within}
use Rattle.zms_units.specs.declared.segments.Seg.{Seg}
use Rattle.zms_units.specs.declared.places.MsId.{MsId}
use Rattle.zms_units.specs.declared.places.VdevRow.{VdevRow}
use Rattle.zms_units.specs.Segments.{AreSegs, covered, total_of}
use Rattle.zms_units.specs.Runs.{units_in, AreMaximalRuns}
use Rattle.vdev_map.specs.Numbers.{IsIn, number_of, row_at, metaslabs_in}
use Rattle.vdev_map.specs.declared.table.Table.{Table}
use Rattle.vdev_map.proofs.InOrder.{one_number}
use Rattle.turn_passes.proofs.Pairs.{get_push}
use Rattle.meta_store.specs.Words.{row_of}
use Rattle.meta_store.proofs.HeldRuns.{maximal_count}
use Rattle.pool_seats.specs.Bases.{AreBasesOf}

-- runs of a metaslab, of as many units as its row counts
pub record IsBase (vdevs : List VdevRow) (table : Table) (id : MsId) (base : List Seg) : Type 0 where
  pub segs : AreSegs (row_at vdevs id.vdev).units base
  pub counted : (row_of table id).held ≡ units_in (covered base) (row_at vdevs id.vdev).units

pub base_found : (vdevs : List VdevRow) (table : Table) (id : MsId) (runs : List Seg) → AreMaximalRuns (covered runs) (row_at vdevs id.vdev).units runs → total_of runs ≡ (row_of table id).held → IsBase vdevs table id runs
base_found vdevs table id runs all total = record { segs = all.rising; counted = sym (maximal_count (covered runs) (row_at vdevs id.vdev).units runs all ∙ total) }

-- those of the first few metaslabs, in order
pub record AreFoundTo (vdevs : List VdevRow) (table : Table) (bases : List (List Seg)) (few : ℕ) : Type 0 where
  pub count : length bases ≡ few
  pub each : (id : MsId) (base : List Seg) → IsIn vdevs id → slice_get bases (number_of vdevs id) ≡ Some base → IsBase vdevs table id base

pub found_none : (vdevs : List VdevRow) (table : Table) → AreFoundTo vdevs table [] 0
found_none vdevs table = record { count = refl; each = λ id base inside at. absurd (omega (arith, slice_get_within [] (number_of vdevs id) base at)) }

pub found_more : (vdevs : List VdevRow) (table : Table) (bases more : List (List Seg)) (few : ℕ) (id : MsId) (base : List Seg) → AreFoundTo vdevs table bases few → more ≡ bases ++ base ∷ []
    → IsIn vdevs id → number_of vdevs id ≡ few → IsBase vdevs table id base → AreFoundTo vdevs table more (few + 1)
found_more vdevs table bases more few id base so_far grows inside place is = record {
  count = omega (arith, ap length grows, length-append bases (base ∷ []), so_far.count);
  each = λ i b in_ at.
      ⊎_elim
      (λ (t : slice_get bases (number_of vdevs i) ≡ Some b). so_far.each i b in_ t)
      (λ (t : (number_of vdevs i ≡ length bases) × (base ≡ b)).
      subst (λ (m : MsId). IsBase vdevs table m b) (sym (one_number vdevs id i inside in_ (t.0 ∙ (so_far.count ∙ sym place)))) (subst (λ (l : List Seg). IsBase vdevs table id l) t.1 is))
      (get_push bases base (number_of vdevs i) b (subst (λ (l : List (List Seg)). slice_get l (number_of vdevs i) ≡ Some b) grows at));
}

pub found_all : (vdevs : List VdevRow) (table : Table) (bases : List (List Seg)) → AreFoundTo vdevs table bases (metaslabs_in vdevs) → AreBasesOf vdevs table bases
found_all vdevs table bases f = record {
  inside = record { count = f.count; each = λ id base inside at. (f.each id base inside at).segs };
  counted = λ id base inside at. (f.each id base inside at).counted;
}
