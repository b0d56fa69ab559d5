-- What the bases of metaslabs are, as the store found them, and how many units they hold.
use Rattle.std.proofs.Common.{◌≡◌, ℕ, ◌+◌, ◌<◌, ◌⊎◌, inl, inr, ⊎_elim, Bool, true, false, if◌then◌else◌, List, [], ◌∷◌, ◌++◌, length, length-append, get_or, refl, sym, ap, ◌∙◌, subst, arith, Some, None}
use Rattle.std.specs.Prelude.{slice_get}
use Rattle.std.proofs.Math.Nat.{eq-or-lt_of_le}
use Rattle.std.proofs.lemmas.Option.{slice_get_within, get_or_from_slice_get}
use Rattle.zms_units.specs.declared.segments.Seg.{Seg}
use Rattle.zms_units.specs.declared.places.MsId.{MsId}
use Rattle.zms_units.specs.declared.places.VdevRow.{VdevRow}
use Rattle.zms_units.specs.Segments.{covered, total_of}
use Rattle.zms_units.specs.Runs.{units_in, AreMaximalRuns}
use Rattle.zms_units.proofs.Counting.{units_same}
use Rattle.vdev_map.specs.Numbers.{IsIn, number_of, row_at, metaslabs_in}
use Rattle.vdev_map.specs.declared.table.Table.{Table}
use Rattle.vdev_map.proofs.InOrder.{one_number}
use Rattle.turn_passes.proofs.Pairs.{get_push}
use Rattle.ms_model.specs.Origin.{Origin}
use Rattle.ms_model.specs.Units.{granted, untouched, is_grant, held}
use Rattle.ms_cell.specs.Turns.{Turns, origin_from}
use Rattle.ms_cell.specs.Passes.{Passes, AreFresh, fixed_of, origin_in}
use Rattle.ms_cell.specs.Closed.{AreBases, BasesStand}
use Rattle.ms_cell.proofs.Lifting.{some_at}
use Rattle.meta_store.specs.Stores.{StoreState}
use Rattle.meta_store.specs.Words.{row_of}
use Rattle.meta_store.proofs.HeldRuns.{maximal_count}
use Rattle.pool_keeper.specs.Groups.{AreCounted}
use Rattle.pool_keeper.specs.Keeper.{MayBegin, unwritten}
use Rattle.keeper_rows.specs.Parts.{IsBase, AreFound, IsCounted, CountsTo, KnowUnits, StandAlike}

pub base_found : (units count : ℕ) (runs : List Seg) → AreMaximalRuns (covered runs) units runs → total_of runs ≡ count → IsBase units runs count
base_found units count runs all total = record { segs = all.rising; total = maximal_count (covered runs) units runs all ∙ total }

-- the runs of each metaslab are such as cells may be made of
pub are_bases : (vdevs : List VdevRow) (bases : List (List Seg)) (counts : List ℕ) → AreFound vdevs bases counts → AreBases vdevs bases
are_bases vdevs bases counts f = record {
  count = f.bases_count;
  each = λ id base inside at.
      let count = some_at counts (number_of vdevs id) (omega (arith, f.bases_count, f.counts_count, slice_get_within bases (number_of vdevs id) base at)) in
      (f.each id base count.0 inside at count.1).segs;
}

is_held : (b : Bool) (opened : ℕ) → is_grant (if b then granted None opened else untouched) ≡ b
is_held true opened = refl
is_held false opened = refl

-- before the first note the opened group holds the base
base_units : (o : Origin) (t units : ℕ) → units_in (held o [] t) units ≡ units_in o.base units
base_units o t units = units_same (held o [] t) o.base units (λ u. is_held (o.base u) o.opened)

-- passes of cells that were made of these runs
pub know_units : (t : Turns) (bases : List (List Seg)) (counts : List ℕ) (p : Passes) → AreFound t.vdevs bases counts → length counts ≡ length p.metaslabs → BasesStand bases p → KnowUnits t counts p
know_units t bases counts p f many stand = record {
  count = many;
  each = λ id count inside at.
      let k = number_of t.vdevs id in
      let lt = slice_get_within counts k count at in
      let base = some_at bases k (omega (arith, lt, f.bases_count, f.counts_count)) in
      let c = some_at p.metaslabs k (omega (arith, lt, many)) in
      let s = stand.each.at k base.0 c.0 base.1 c.1 in
      let units = (row_at t.vdevs id.vdev).units in
      let origin : (origin_in p k).base ≡ covered base.0 = ap (λ x. (origin_from (fixed_of x)).base) c.1 ∙ (ap (λ x. (origin_from x).base) s.1.0 ∙ ap covered s.1.1) in
      sym (base_units (origin_in p k) t.opened units ∙ (ap (λ (b : ℕ → Bool). units_in b units) origin ∙ (f.each id base.0 count inside base.1 at).total));
}

-- passes that stand for the same know as much
pub know_alike : (t : Turns) (counts : List ℕ) (p q : Passes) → length q.metaslabs ≡ length p.metaslabs → StandAlike p q → KnowUnits t counts p → KnowUnits t counts q
know_alike t counts p q level same know = record {
  count = know.count ∙ sym level;
  each = λ id count inside at.
      let k = number_of t.vdevs id in
      let lt = slice_get_within counts k count at in
      let c = some_at p.metaslabs k (omega (arith, lt, know.count)) in
      let d = some_at q.metaslabs k (omega (arith, lt, know.count, level)) in
      let origin : origin_in q k ≡ origin_in p k = ap (λ x. origin_from (fixed_of x)) d.1 ∙ (ap origin_from (same.at k c.0 d.0 c.1 d.1) ∙ sym (ap (λ x. origin_from (fixed_of x)) c.1)) in
      know.each id count inside at ∙ ap (λ (o : Origin). units_in (held o [] t.opened) (row_at t.vdevs id.vdev).units) (sym origin);
}

-- a keeper may begin with the passes of these cells
pub may_begin : {D : Type 0} (t : Turns) (counts : List ℕ) (store : StoreState D) (p : Passes) → AreFresh 0 t p → IsCounted t counts store → KnowUnits t counts p → MayBegin t store p
may_begin t counts store p fresh counted know = record {
  fresh = fresh;
  count = counted.many;
  vdevs = counted.vdevs;
  opened = counted.opened;
  counted = subst (λ (g : ℕ). AreCounted store.layout.vdevs g store.table (origin_in p) unwritten) counted.opened
      (subst (λ (v : List VdevRow). AreCounted v t.opened store.table (origin_in p) unwritten) counted.vdevs
      (record { each = λ id inside. know.each id (row_of store.table id).held inside (counted.each id inside) }));
}

-- those of the first few metaslabs, in order
pub record AreFoundTo (vdevs : List VdevRow) (bases : List (List Seg)) (counts : List ℕ) (few : ℕ) : Type 0 where
  pub bases_few : length bases ≡ few
  pub counts_few : length counts ≡ few
  pub each : (id : MsId) (base : List Seg) (count : ℕ) → IsIn vdevs id → slice_get bases (number_of vdevs id) ≡ Some base → slice_get counts (number_of vdevs id) ≡ Some count → IsBase (row_at vdevs id.vdev).units base count

pub found_none : (vdevs : List VdevRow) → AreFoundTo vdevs [] [] 0
found_none vdevs = record { bases_few = refl; counts_few = refl; each = λ id base count inside at there. absurd (omega (arith, slice_get_within [] (number_of vdevs id) base at)) }

pub found_more : (vdevs : List VdevRow) (bases more : List (List Seg)) (counts extra : List ℕ) (few : ℕ) (id : MsId) (base : List Seg) (count : ℕ) → AreFoundTo vdevs bases counts few → more ≡ bases ++ base ∷ [] → extra ≡ counts ++ count ∷ []
    → IsIn vdevs id → number_of vdevs id ≡ few → IsBase (row_at vdevs id.vdev).units base count → AreFoundTo vdevs more extra (few + 1)
found_more vdevs bases more counts extra few id base count so_far grows follows inside place is = record {
  bases_few = omega (arith, ap length grows, length-append bases (base ∷ []), so_far.bases_few);
  counts_few = omega (arith, ap length follows, length-append counts (count ∷ []), so_far.counts_few);
  each = λ i b n in_ at there.
      ⊎_elim
      (λ (t : slice_get bases (number_of vdevs i) ≡ Some b).
      ⊎_elim
      (λ (u : slice_get counts (number_of vdevs i) ≡ Some n). so_far.each i b n in_ t u)
      (λ (u : (number_of vdevs i ≡ length counts) × (count ≡ n)). absurd (omega (arith, slice_get_within bases (number_of vdevs i) b t, u.0, so_far.bases_few, so_far.counts_few)))
      (get_push counts count (number_of vdevs i) n (subst (λ (l : List ℕ). slice_get l (number_of vdevs i) ≡ Some n) follows there)))
      (λ (t : (number_of vdevs i ≡ length bases) × (base ≡ b)).
      ⊎_elim
      (λ (u : slice_get counts (number_of vdevs i) ≡ Some n). absurd (omega (arith, slice_get_within counts (number_of vdevs i) n u, t.0, so_far.bases_few, so_far.counts_few)))
      (λ (u : (number_of vdevs i ≡ length counts) × (count ≡ n)).
      subst (λ (m : MsId). IsBase (row_at vdevs m.vdev).units b n) (sym (one_number vdevs id i inside in_ (t.0 ∙ (so_far.bases_few ∙ sym place))))
      (subst (λ (l : List Seg). IsBase (row_at vdevs id.vdev).units l n) t.1 (subst (λ (m : ℕ). IsBase (row_at vdevs id.vdev).units base m) u.1 is)))
      (get_push counts count (number_of vdevs i) n (subst (λ (l : List ℕ). slice_get l (number_of vdevs i) ≡ Some n) follows there)))
      (get_push bases base (number_of vdevs i) b (subst (λ (l : List (List Seg)). slice_get l (number_of vdevs i) ≡ Some b) grows at));
}

pub found_all : (vdevs : List VdevRow) (bases : List (List Seg)) (counts : List ℕ) → AreFoundTo vdevs bases counts (metaslabs_in vdevs) → AreFound vdevs bases counts
found_all vdevs bases counts f = record { bases_count = f.bases_few; counts_count = f.counts_few; each = f.each }

below_or : (a b : ℕ) → a < b + 1 → (a < b) ⊎ (a ≡ b)
below_or a b less = ⊎_elim (λ (t : a ≡ b). inr t) (λ (t : a < b). inl t) (eq-or-lt_of_le (omega (arith, less)))

-- the rows of one metaslab more count as many
pub counts_more : (vdevs : List VdevRow) (counts : List ℕ) (table : Table) (few : ℕ) (id : MsId) → CountsTo vdevs counts table few → few < length counts → IsIn vdevs id → number_of vdevs id ≡ few → (row_of table id).held ≡ get_or counts few 0
    → CountsTo vdevs counts table (few + 1)
counts_more vdevs counts table few id so_far lt inside place is i in_ less =
    ⊎_elim
    (λ (t : number_of vdevs i < few). so_far i in_ t)
    (λ (t : number_of vdevs i ≡ few).
    let x = some_at counts few lt in
    let there : slice_get counts few ≡ Some (row_of table id).held = x.1 ∙ ap Some (sym (is ∙ get_or_from_slice_get counts few x.0 0 x.1)) in
    subst (λ (m : MsId). slice_get counts (number_of vdevs m) ≡ Some (row_of table m).held) (sym (one_number vdevs id i inside in_ (t ∙ sym place))) (subst (λ (k : ℕ). slice_get counts k ≡ Some (row_of table id).held) (sym place) there))
    (below_or (number_of vdevs i) few less)
