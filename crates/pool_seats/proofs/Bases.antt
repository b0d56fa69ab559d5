-- A pool as its lanes are to begin.
use Rattle.std.proofs.Common.{◌≡◌, ℕ, Bool, true, false, if◌then◌else◌, List, [], length, refl, sym, ap, ◌∙◌, arith, None}
use Rattle.std.proofs.lemmas.Option.{slice_get_within}
use Rattle.zms_units.specs.declared.segments.Seg.{Seg}
use Rattle.zms_units.specs.Segments.{covered}
use Rattle.zms_units.specs.Runs.{units_in}
use Rattle.zms_units.proofs.Counting.{units_same}
use Rattle.vdev_map.specs.Numbers.{number_of, row_at, metaslabs_in}
use Rattle.turn_passes.proofs.Pairs.{some_at}
use Rattle.ms_model.specs.Origin.{Origin}
use Rattle.ms_model.specs.Units.{granted, untouched, is_grant, held}
use Rattle.ms_cell.specs.Turns.{Turns, origin_from}
use Rattle.ms_cell.specs.Passes.{Passes, AreFresh, StandAlike as CellsStandAlike, fixed_of, origin_in}
use Rattle.ms_cell.specs.Closed.{BasesStand}
use Rattle.meta_store.specs.Stores.{StoreState}
use Rattle.pool_keeper.specs.Groups.{AreCounted}
use Rattle.pool_keeper.specs.Keeper.{MayBegin, unwritten}
use Rattle.pool_keeper.proofs.Remembering.{number_within}
use Rattle.pool_seats.specs.Bases.{AreBasesOf}

is_held : (b : Bool) (opened : ℕ) → is_grant (if b then granted None opened else untouched) ≡ b
is_held true opened = refl
is_held false opened = refl

-- before the first note the opened group holds the base
base_units : (o : Origin) (t units : ℕ) → units_in (held o [] t) units ≡ units_in o.base units
base_units o t units = units_same (held o [] t) o.base units (λ u. is_held (o.base u) o.opened)

-- passes that stand for what others do stand for the same bases
pub bases_along : (bases : List (List Seg)) (p q : Passes) → CellsStandAlike q p → BasesStand bases p → BasesStand bases q
bases_along bases p q alike stand = record {
  each = record {
    at = λ k base d e f.
        let c = some_at p.metaslabs k (omega (arith, alike.count, slice_get_within q.metaslabs k d f)) in
        let s = stand.each.at k base c.0 e c.1 in
        (s.0, (alike.each.at k c.0 d c.1 f ∙ s.1.0, s.1.1));
  };
}

-- the number in each row is that of the base's units
counted : {D : Type 0} (store : StoreState D) (bases : List (List Seg)) (p : Passes) → length p.metaslabs ≡ metaslabs_in store.layout.vdevs → BasesStand bases p → AreBasesOf store.layout.vdevs store.table bases
    → AreCounted store.layout.vdevs store.table.group.0 store.table (origin_in p) unwritten
counted store bases p many stand b = record {
  each = λ id inside.
      let vdevs = store.layout.vdevs in
      let k = number_of vdevs id in
      let units = (row_at vdevs id.vdev).units in
      let lt = number_within vdevs id inside in
      let base = some_at bases k (omega (arith, lt, b.inside.count)) in
      let c = some_at p.metaslabs k (omega (arith, lt, many)) in
      let s = stand.each.at k base.0 c.0 base.1 c.1 in
      let origin : (origin_in p k).base ≡ covered base.0 = ap (λ x. (origin_from (fixed_of x)).base) c.1 ∙ (ap (λ x. (origin_from x).base) s.1.0 ∙ ap covered s.1.1) in
      b.counted id base.0 inside base.1 ∙ sym (base_units (origin_in p k) store.table.group.0 units ∙ ap (λ (x : ℕ → Bool). units_in x units) origin);
}

-- a keeper may begin with passes that stand for these bases
pub may_begin : {D : Type 0} (t : Turns) (store : StoreState D) (bases : List (List Seg)) (p : Passes) → AreFresh 0 t p → length t.metaslabs ≡ metaslabs_in t.vdevs → t.vdevs ≡ store.layout.vdevs → t.opened ≡ store.table.group.0
    → BasesStand bases p → AreBasesOf store.layout.vdevs store.table bases → MayBegin t store p
may_begin t store bases p fresh count vdevs opened stand b = record {
  fresh = fresh;
  count = count;
  vdevs = vdevs;
  opened = opened;
  counted = counted store bases p (sym fresh.know.count ∙ (count ∙ ap metaslabs_in vdevs)) stand b;
}
