-- What an image remembers, as the journal grows, after the opened group was made the only one, and over a commit.
use Rattle.std.proofs.Common.{◌≡◌, ℕ, ◌+◌, ◌<◌, ◌≤◌, Bool, true, false, cond, List, [], ◌∷◌, ◌⊎◌, inl, inr, zero, suc, refl, sym, ◌∙◌, ap, subst, arith}
use Rattle.std.specs.Prelude.{not, ◌&&◌, ◌||◌}
use Rattle.std.specs.List.{All}
use Rattle.std.proofs.lemmas.List.Elements.{All-nil, All-push}
use Rattle.zms_units.specs.Limits.{GROUPS_END}
use Rattle.zms_units.specs.Runs.{units_in, AreMaximalRuns}
use Rattle.zms_units.specs.Segments.{covered, total_of}
use Rattle.zms_units.specs.declared.places.Class.TheVariants.{Normal}
use Rattle.zms_units.specs.declared.places.MsId.{MsId}
use Rattle.zms_units.specs.declared.places.VdevRow.{VdevRow}
use Rattle.zms_units.specs.declared.segments.Group.{Group}
use Rattle.zms_units.specs.declared.segments.Seg.{Seg}
use Rattle.zms_units.proofs.Bools.{le_or, same_not}
use Rattle.zms_units.proofs.Counting.{units_same, units_or}
use Rattle.zms_units.proofs.RisingSegs.{rising_above}
use Rattle.ms_model.specs.Origin.{Origin}
use Rattle.ms_model.specs.Units.{held, settled_group, collected_group}
use Rattle.ms_model.specs.Gains.{is_gained, is_given}
use Rattle.ms_model.specs.Legal.{IsLegal}
use Rattle.ms_model.specs.declared.notes.Noted.{Noted}
use Rattle.ms_model.proofs.Overlaps.{unit_facts}
use Rattle.vdev_map.specs.Numbers.{IsIn, row_at}
use Rattle.vdev_map.specs.declared.layout.Batch.{Batch}
use Rattle.vdev_map.specs.declared.layout.Head.{Head}
use Rattle.vdev_map.specs.declared.layout.Layout.{Layout}
use Rattle.vdev_map.specs.declared.table.Table.{Table}
use Rattle.uber_ring.specs.Slots.{IsValid}
use Rattle.uber_ring.specs.declared.slot.Uber.{Uber}
use Rattle.space_map.specs.Replay.{Replays}
use Rattle.space_map.specs.declared.places.MapKind.TheVariants.{Side}
use Rattle.meta_store.specs.Batches.{after, AreBacked, IsBacked}
use Rattle.meta_store.specs.Commits.{IsBefore, IsAfter}
use Rattle.meta_store.specs.Groups.{Contents, Finds, HasGroup, HasNewest}
use Rattle.meta_store.specs.Heads.{head_of}
use Rattle.meta_store.specs.Kept.{LiesIn}
use Rattle.meta_store.specs.Rewinds.{IsRewound}
use Rattle.meta_store.specs.Stores.{RestsAt}
use Rattle.meta_store.specs.Words.{units_of, words_in}
use Rattle.meta_store.proofs.FoundOnce.{one_of_group, one_newest}
use Rattle.meta_store.proofs.HeldRuns.{maximal_count}
use Rattle.meta_store.proofs.Keeping.{SameKept, finds_kept}
use Rattle.meta_store.proofs.KeptPlaces.{group_of_table}
use Rattle.meta_store.proofs.Layouts.{head_again}
use Rattle.zms_top.specs.Sound.{first_id, Grows}
use Rattle.zms_top.specs.Stored.{IsSingle, contents_of, opened_contents, IsOpenable, OpensAt, Remembers}
use Rattle.zms_top.proofs.Backing.{unit_backs}

-- contents by another name

pub finds_same : (image : List ℕ) (group : ℕ) (a b : Contents) → a.layout ≡ b.layout
    → ((id : MsId) (u : ℕ) → IsIn a.layout.vdevs id → u < (row_at a.layout.vdevs id.vdev).units → a.held id u ≡ b.held id u) → Finds image group a → Finds image group b
finds_same image group a b layout same found = record {
  uber = found.uber;
  head = found.head;
  table = found.table;
  named = found.named;
  has = found.has;
  layout = sym layout ∙ found.layout;
  found = λ id u inside lt.
      let here : IsIn a.layout.vdevs id = subst (λ (l : Layout). IsIn l.vdevs id) (sym found.layout) inside in
      let within : u < (row_at a.layout.vdevs id.vdev).units = subst (λ (l : Layout). u < (row_at l.vdevs id.vdev).units) (sym found.layout) lt in
      subst (Replays (Side (units_of found.table id)) (words_in image found.table id) u) (same id u here within) (found.found id u inside lt);
}

-- the only metaslab of a layout over which lanes run

only_id : (units v i : ℕ) → IsIn (record { class = Normal; ashift = 12; units = units; metaslabs = 1 } ∷ []) (record { vdev = v; index = i }) → ◌≡◌ {A = MsId} (record { vdev = v; index = i }) first_id
only_id units zero zero inside = refl
only_id units zero (suc i) inside = absurd (omega (arith, inside.index))
only_id units (suc v) i inside = absurd (omega (arith, inside.vdev))

pub single_id : (layout : Layout) (units : ℕ) (id : MsId) → IsSingle layout units → IsIn layout.vdevs id → id ≡ first_id
single_id layout units id single inside = only_id units id.vdev id.index (subst (λ (vdevs : List VdevRow). IsIn vdevs id) single.vdevs inside)

pub single_units : (layout : Layout) (units : ℕ) → IsSingle layout units → (row_at layout.vdevs first_id.vdev).units ≡ units
single_units layout units single = ap (λ (vdevs : List VdevRow). (row_at vdevs first_id.vdev).units) single.vdevs

pub first_in : (layout : Layout) (units : ℕ) → IsSingle layout units → IsIn layout.vdevs first_id
first_in layout units single = subst (λ (vdevs : List VdevRow). IsIn vdevs first_id) (sym single.vdevs) (record { vdev = omega arith; index = omega arith })

-- a group that is found can be opened

pub opens_at : (image : List ℕ) (group newest : ℕ) (contents : Contents) → Finds image group contents → HasNewest image newest → newest ≤ group + 2 → group < GROUPS_END → OpensAt image group contents.layout
opens_at image group newest contents found is_newest recent early =
    let named : found.uber.group ≡ record { 0 = group } = ap (λ (n : ℕ). let g : Group = record { 0 = n } in g) found.named in
    let head : found.head ≡ head_of contents.layout = head_again found.head found.table found.has.rows.has_head.whole ∙ ap head_of (sym found.layout) in
    record {
      table = found.table;
      named = ap (λ (g : Group). g.0) (sym (group_of_table image found.uber found.head found.table found.has.rows.has_table)) ∙ found.named;
      opens = record {
        uber = found.uber;
        asked = record {
          newest = is_newest.uber;
          is_newest = is_newest.newest;
          group = named;
          recent = omega (arith, is_newest.named, found.named, recent);
          valid = found.has.valid;
        };
        opened = record {
          early = omega (arith, found.named, early);
          has = subst (λ (h : Head). HasGroup image found.uber h found.table) head found.has;
        };
      };
    }

-- an image that finds each group that can be opened remembers
pub remembers : (layout : Layout) (o : Origin) (h : List Noted) (low newest : ℕ) (image : List ℕ) → HasNewest image newest → low ≤ newest → newest ≤ collected_group o h
    → ((uber : Uber) → IsValid image uber → newest ≤ uber.group.0 + 2 → o.opened ≤ uber.group.0)
    → ((group : ℕ) → IsOpenable o newest group → Finds image group (contents_of layout o h group)) → Remembers layout o h low image
remembers layout o h low newest image is_newest least most only finds = record {
  newest = newest;
  is_newest = is_newest;
  least = least;
  most = most;
  only = only;
  finds = finds;
  opens = λ group openable early. opens_at image group newest (contents_of layout o h group) (finds group openable) is_newest openable.recent early;
}

-- it still does as the journal grows
pub remembers_grown : (layout : Layout) (o : Origin) (h j : List Noted) (low : ℕ) (image : List ℕ) → Grows o h j → Remembers layout o h low image → Remembers layout o j low image
remembers_grown layout o h j low image grows was = record {
  newest = was.newest;
  is_newest = was.is_newest;
  least = was.least;
  most = omega (arith, was.most, grows.collected);
  only = was.only;
  finds = λ group openable.
      finds_same image group (contents_of layout o h group) (contents_of layout o j group) refl
      (λ id u inside lt. sym (grows.holds group u (omega (arith, openable.to, was.most)))) (was.finds group openable);
  opens = was.opens;
}

pub remembers_lower : (layout : Layout) (o : Origin) (h : List Noted) (low lower : ℕ) (image : List ℕ) → lower ≤ low → Remembers layout o h low image → Remembers layout o h lower image
remembers_lower layout o h low lower image le was = record {
  newest = was.newest;
  is_newest = was.is_newest;
  least = omega (arith, le, was.least);
  most = was.most;
  only = was.only;
  finds = was.finds;
  opens = was.opens;
}

-- of a device on which the opened group is the only one

pub base_held : (o : Origin) (u : ℕ) (b : Bool) → o.base u ≡ b → held o [] o.opened u ≡ b
base_held o u true is = rw is refl
base_held o u false is = rw is refl

pub rewound_remembers : (layout : Layout) (o : Origin) (uber : Uber) (b c : List ℕ) → IsRewound uber b c → LiesIn b uber → uber.group.0 ≡ o.opened
    → Finds b o.opened (opened_contents layout o) → Remembers layout o [] o.opened c
rewound_remembers layout o uber b c rewound lies named found =
    let same : found.uber ≡ uber = one_of_group b found.uber uber (found.named ∙ sym named) found.has.valid (rewound.run.no_more uber rewound.run.valid) in
    let kept : SameKept b c uber = λ p is. rewound.run.keeps uber rewound.run.valid p is (lies p is) in
    let there : Finds c o.opened (opened_contents layout o) = finds_kept b c o.opened (opened_contents layout o) found (subst (SameKept b c) (sym same) kept) in
    let here : Finds c o.opened (contents_of layout o [] o.opened) =
    finds_same c o.opened (opened_contents layout o) (contents_of layout o [] o.opened) refl (λ id u inside lt. sym (base_held o u (o.base u) refl)) there in
    let newest : HasNewest c o.opened = record {
      uber = uber;
      newest = record { valid = rewound.run.valid; greatest = λ other valid. omega (arith, ap (λ (x : Uber). x.group.0) (rewound.only other valid)) };
      named = named;
    } in
    remembers layout o [] o.opened o.opened c newest (omega arith) (omega arith)
    (λ other valid recent. omega (arith, ap (λ (x : Uber). x.group.0) (rewound.only other valid), named))
    (λ group openable. let e : o.opened ≡ group = omega (arith, openable.from, openable.to) in subst (λ (g : ℕ). Finds c g (contents_of layout o [] g)) e here)

-- one batch for the one metaslab

pub all_one : {A : Type 0} (P : A → Type 0) (x : A) → P x → All P (x ∷ [])
all_one P x is = All-push P [] x (All-nil P) is

sums_by : (given gained was : Bool) → cond given false (cond gained true was) ≡ (not given && (gained || was))
sums_by true gained was = refl
sums_by false true was = refl
sums_by false false was = refl

-- a group that is collected, with what it gains and gives back as runs; the group before it is t
module _ (layout : Layout) (o : Origin) (h : List Noted) (t : ℕ) (batch : Batch) (single : IsSingle layout o.units) (legal : IsLegal o h) (near : settled_group o h ≤ t) (id_is : batch.id ≡ first_id)
    (allocs : AreMaximalRuns (is_gained (t + 1) h) o.units batch.allocs) (frees : AreMaximalRuns (is_given (t + 1) h) o.units batch.frees) where
  below_end : (runs : List Seg) (set : ℕ → Bool) (u : ℕ) → AreMaximalRuns set o.units runs → covered runs u ≡ true → set u ≡ true
  below_end runs set u are e = turn (le_or o.units u) where
    turn : (o.units ≤ u) ⊎ (u < o.units) → set u ≡ true
    turn (inl le) = absurd (same_not e (rising_above 0 o.units runs are.rising u le))
    turn (inr lt) = sym (are.whole u lt) ∙ e

  above_end : (runs : List Seg) (set : ℕ → Bool) (u : ℕ) → AreMaximalRuns set o.units runs → u < o.units → set u ≡ true → covered runs u ≡ true
  above_end runs set u are lt e = are.whole u lt ∙ e

  abbrev was_held : ℕ → Bool
  was_held u = held o h t u

  abbrev now_held : ℕ → Bool
  now_held u = held o h (t + 1) u

  -- runs of the batch are backed by what the group before held
  given_backed : (u : ℕ) → u < o.units → is_given (t + 1) h u ≡ true → (was_held u ≡ true) ⊎ (covered batch.allocs u ≡ true)
  given_backed u lt e = turn ((unit_backs o h t u legal near).gifts e) where
    turn : (was_held u ≡ true) ⊎ (is_gained (t + 1) h u ≡ true) → (was_held u ≡ true) ⊎ (covered batch.allocs u ≡ true)
    turn (inl was) = inl was
    turn (inr gained) = inr (above_end batch.allocs (is_gained (t + 1) h) u allocs lt gained)

  covers_below : (runs : List Seg) (set : ℕ → Bool) (u : ℕ) → AreMaximalRuns set o.units runs → covered runs u ≡ true → u < o.units
  covers_below runs set u are e = turn (le_or o.units u) where
    turn : (o.units ≤ u) ⊎ (u < o.units) → u < o.units
    turn (inl le) = absurd (same_not e (rising_above 0 o.units runs are.rising u le))
    turn (inr lt) = lt

  pub batch_backed : AreBacked (contents_of layout o h t) (batch ∷ [])
  batch_backed = all_one (λ (b : Batch). IsBacked ((contents_of layout o h t).held b.id) b) batch (record {
    allocs = λ u e. (unit_backs o h t u legal near).gains (below_end batch.allocs (is_gained (t + 1) h) u allocs e);
    frees = λ u e. given_backed u (covers_below batch.frees (is_given (t + 1) h) u frees e) (below_end batch.frees (is_given (t + 1) h) u frees e);
  })

  adds : (u : ℕ) → now_held u ≡ (not (is_given (t + 1) h u) && (is_gained (t + 1) h u || was_held u))
  adds u = (unit_facts o h t u legal).adds

  -- with them it holds what the next holds
  after_held : (u : ℕ) → u < o.units → (after (contents_of layout o h t) (batch ∷ [])).held first_id u ≡ now_held u
  after_held u lt =
      rw (id_is, frees.whole u lt, allocs.whole u lt) (sums_by (is_given (t + 1) h u) (is_gained (t + 1) h u) (was_held u) ∙ sym (adds u))

  pub finds_next : (image : List ℕ) (group : ℕ) → Finds image group (after (contents_of layout o h t) (batch ∷ [])) → Finds image group (contents_of layout o h (t + 1))
  finds_next image group found =
      finds_same image group (after (contents_of layout o h t) (batch ∷ [])) (contents_of layout o h (t + 1)) refl
      (λ id u inside lt.
      let is : id ≡ first_id = single_id layout o.units id single inside in
      let within : u < o.units = subst (λ (n : ℕ). u < n) (single_units layout o.units single) (subst (λ (i : MsId). u < (row_at layout.vdevs i.vdev).units) is lt) in
      subst (λ (i : MsId). (after (contents_of layout o h t) (batch ∷ [])).held i u ≡ now_held u) (sym is) (after_held u within))
      found

  -- counts

  now_or_given : (given gained was : Bool) → (given ≡ true → (was ≡ true) ⊎ (gained ≡ true)) → ((not given && (gained || was)) || given) ≡ (gained || was)
  now_or_given false gained was back = or_false_at (gained || was) where
    or_false_at : (b : Bool) → (b || false) ≡ b
    or_false_at true = refl
    or_false_at false = refl
  now_or_given true true was back = refl
  now_or_given true false true back = refl
  now_or_given true false false back = absurd (none (back refl)) where
    none : (false ≡ true) ⊎ (false ≡ true) → ⊥
    none (inl e) = cc
    none (inr e) = cc

  not_both : (given gained was : Bool) → (not given && (gained || was)) ≡ true → given ≡ false
  not_both true gained was e = cc
  not_both false gained was e = refl

  pub counts_add : units_in now_held o.units + total_of batch.frees ≡ units_in was_held o.units + total_of batch.allocs
  counts_add =
      let gained = is_gained (t + 1) h in
      let given = is_given (t + 1) h in
      let now : ℕ → Bool = λ u. not (given u) && (gained u || was_held u) in
      let total : units_in (λ u. now u || given u) o.units ≡ units_in now o.units + units_in given o.units = units_or now given o.units (λ u e. not_both (given u) (gained u) (was_held u) e) in
      let sum : units_in (λ u. gained u || was_held u) o.units ≡ units_in gained o.units + units_in was_held o.units = units_or gained was_held o.units (λ u e. (unit_backs o h t u legal near).gains e) in
      let same : units_in (λ u. now u || given u) o.units ≡ units_in (λ u. gained u || was_held u) o.units =
      units_same (λ u. now u || given u) (λ u. gained u || was_held u) o.units (λ u. now_or_given (given u) (gained u) (was_held u) (unit_backs o h t u legal near).gifts) in
      let now_is : units_in now_held o.units ≡ units_in now o.units = units_same now_held now o.units adds in
      omega (arith, total, sum, same, now_is, maximal_count gained o.units batch.allocs allocs, maximal_count given o.units batch.frees frees)

-- images over a commit of the group after g

module _ (layout : Layout) (o : Origin) (h : List Noted) (g : ℕ) (table : Table) (d c : List ℕ) (rests : RestsAt layout table d) (of_table : table.group.0 ≡ g) (was : Remembers layout o h g d) where
  pub newest_is : was.newest ≡ g
  newest_is =
      let same : was.is_newest.uber ≡ rests.uber = one_newest d was.is_newest.uber rests.uber was.is_newest.newest rests.newest in
      omega (arith, was.is_newest.named, ap (λ (u : Uber). u.group.0) same, ap (λ (x : Group). x.0) (group_of_table d rests.uber (head_of layout) table rests.has.rows.has_table), of_table)

  older : (group newest : ℕ) → IsOpenable o newest group → group ≤ g → g ≤ newest → IsOpenable o was.newest group
  older group newest openable le later = record { from = openable.from; to = omega (arith, le, newest_is); recent = omega (arith, openable.recent, later, newest_is) }

  pub before_remembers : IsBefore g d c → Remembers layout o h g c
  before_remembers before =
      remembers layout o h g g c before.newest (omega arith) (omega (arith, was.most, newest_is))
      (λ uber valid recent. was.only uber (before.only uber valid) (omega (arith, recent, newest_is)))
      (λ group openable. before.keeps group (contents_of layout o h group) openable.recent (was.finds group (older group g openable openable.to (omega arith))))

  pub after_remembers : (batch : Batch) → o.opened ≤ g → g + 1 ≤ collected_group o h → AreBacked (contents_of layout o h g) (batch ∷ [])
      → ((image : List ℕ) (group : ℕ) → Finds image group (after (contents_of layout o h g) (batch ∷ [])) → Finds image group (contents_of layout o h (g + 1)))
      → IsAfter g (batch ∷ []) d c → Remembers layout o h (g + 1) c
  after_remembers batch from collected backed next now =
      remembers layout o h (g + 1) (g + 1) c now.newest (omega arith) collected only finds where
        only_by : (uber : Uber) → g + 1 ≤ uber.group.0 + 2 → (uber.group.0 ≡ g + 1) ⊎ IsValid d uber → o.opened ≤ uber.group.0
        only_by uber recent (inl new) = omega (arith, new, from)
        only_by uber recent (inr old) = was.only uber old (omega (arith, recent, newest_is))

        only : (uber : Uber) → IsValid c uber → g + 1 ≤ uber.group.0 + 2 → o.opened ≤ uber.group.0
        only uber valid recent = only_by uber recent (now.only uber valid)

        here : Finds d g (contents_of layout o h g)
        here = was.finds g (record { from = from; to = omega (arith, newest_is); recent = omega (arith, newest_is) })

        finds_by : (group : ℕ) → IsOpenable o (g + 1) group → (group ≤ g) ⊎ (g < group) → Finds c group (contents_of layout o h group)
        finds_by group openable (inl le) = now.keeps group (contents_of layout o h group) openable.recent (was.finds group (older group (g + 1) openable le (omega arith)))
        finds_by group openable (inr lt) =
            let e : g + 1 ≡ group = omega (arith, lt, openable.to) in
            subst (λ (n : ℕ). Finds c n (contents_of layout o h n)) e (next c (g + 1) (now.finds (contents_of layout o h g) here backed))

        finds : (group : ℕ) → IsOpenable o (g + 1) group → Finds c group (contents_of layout o h group)
        finds group openable = finds_by group openable (le_or group g)
