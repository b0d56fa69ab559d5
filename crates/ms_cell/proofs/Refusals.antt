-- Which refusal came, from what a metaslab's call says of each.
use Rattle.std.proofs.Common.{◌≡◌, ℕ, zero, suc, ◌+◌, ◌-◌, ◌<◌, ◌≤◌, true, false, Some, None, List, refl, subst, arith, ◌⊎◌, inl, inr, ⊎_elim, eqb, Result, Err}
use Rattle.std.specs.Prelude.{IsOk, not, ◌&&◌, ◌||◌}
use Rattle.std.proofs.lemmas.Bool.{cases_lt}
use Rattle.std.proofs.lemmas.Bool.Decides.{eqb_tells}
use Rattle.zms_units.proofs.Bools.{true_or_false}
use Rattle.zms_units.specs.declared.segments.Group.{Group}
use Rattle.zms_units.specs.declared.segments.Seg.{Seg}
use Rattle.zms_units.specs.Segments.{Covers}
use Rattle.zms_units.specs.Runs.{AreMaximalRuns}
use Rattle.ms_model.specs.Origin.{Origin}
use Rattle.ms_model.specs.Units.{LastAct, granted, freed, taken_back, untouched, is_loaded, collected_group, held}
use Rattle.ms_model.specs.Gains.{is_gained, is_given}
use Rattle.ms_model.specs.Legal.{IsLegal, IsGrantedBy, IsLowestLacking}
use Rattle.ms_model.specs.declared.notes.Noted.{Noted}
use Rattle.ms_model.proofs.Overlaps.{unit_facts}
use Rattle.ms_core.specs.Buffers.{changed_runs}
use Rattle.ms_core.proofs.Searching.{Searched, searched}
use Rattle.ms_core.proofs.Searching.Searched.{lacks, all}
use Rattle.ms_core.specs.declared.faults.MsFault.{MsFault}
use Rattle.ms_core.specs.declared.faults.MsFault.TheVariants.{Late, NotLive, NotLoaded, Short}
use Rattle.ms_cell.specs.declared.answers.CellFault.TheVariants.{Ms}
use Rattle.ms_cell.specs.Answers.{GiveBackFault, IsGathered, IsShort}

-- whether a unit was granted by this lane in just this group

same_or_not : (m n : ℕ) → (m ≡ n) ⊎ (m ≡ n → ⊥)
same_or_not m n = ⊎_elim (λ (t : (eqb m n ≡ true) × (m ≡ n)). inl t.1) (λ (t : (eqb m n ≡ false) × (m ≡ n → ⊥)). inr t.1) (eqb_tells m n)

both_or_not : (by lane group t : ℕ) → (by ≡ lane) ⊎ (by ≡ lane → ⊥) → (group ≡ t) ⊎ (group ≡ t → ⊥) → (granted (Some by) group ≡ granted (Some lane) t) ⊎ (granted (Some by) group ≡ granted (Some lane) t → ⊥)
both_or_not by lane group t (inl e) (inl f) = inl (cc)
both_or_not by lane group t (inr n) f = inr (λ e. n (cc))
both_or_not by lane group t (inl e) (inr n) = inr (λ f. n (cc))

pub own_or_not : (lane t : ℕ) (a : LastAct) → (a ≡ granted (Some lane) t) ⊎ (a ≡ granted (Some lane) t → ⊥)
own_or_not lane t (granted None group) = inr (λ e. cc)
own_or_not lane t (granted (Some by) group) = both_or_not by lane group t (same_or_not by lane) (same_or_not group t)
own_or_not lane t (freed group) = inr (λ e. cc)
own_or_not lane t taken_back = inr (λ e. cc)
own_or_not lane t untouched = inr (λ e. cc)

same_fault : {A : Type 0} (f g : MsFault) (r : Result A MsFault) → r ≡ Err f → r ≡ Err g → f ≡ g
same_fault f g r e d = cc

no_ok : {A : Type 0} (f : MsFault) (r : Result A MsFault) → r ≡ Err f → IsOk r → ⊥
no_ok f r e ok = cc

-- what gives units back was refused for its cause
pub refused : (group : Group) (Has : ℕ → Type 0) (seg : Seg) (o : Origin) (h : List Noted) (r : Result (Unit {0}) MsFault) (fault : MsFault) → ((u : ℕ) → Has u ⊎ (Has u → ⊥)) → r ≡ Err fault
    → (group.0 ≤ collected_group o h → r ≡ Err (Late group (record { 0 = collected_group o h })))
    → (collected_group o h < group.0 → is_loaded h ≡ false → r ≡ Err NotLoaded)
    → ((unit : ℕ) → collected_group o h < group.0 → is_loaded h ≡ true → IsLowestLacking Has seg unit → r ≡ Err (NotLive unit))
    → (collected_group o h < group.0 → is_loaded h ≡ true → ((u : ℕ) → Covers seg u → Has u) → IsOk r)
    → GiveBackFault group Has seg (Ms fault) o h
refused group Has seg o h r fault test is late unloaded not_live taken = by_group (cases_lt (collected_group o h) group.0) where
  told : (f : MsFault) → r ≡ Err f → GiveBackFault group Has seg (Ms f) o h → GiveBackFault group Has seg (Ms fault) o h
  told f e give = subst (λ (x : MsFault). GiveBackFault group Has seg (Ms x) o h) (same_fault f fault r e is) give

  by_search : collected_group o h < group.0 → is_loaded h ≡ true → Searched Has seg → GiveBackFault group Has seg (Ms fault) o h
  by_search above loaded (lacks unit low) = told (NotLive unit) (not_live unit above loaded low) (record { open_group = above; loaded = loaded; lowest = low })
  by_search above loaded (all each) = absurd (no_ok fault r is (taken above loaded each))

  by_load : collected_group o h < group.0 → (is_loaded h ≡ true) ⊎ (is_loaded h ≡ false) → GiveBackFault group Has seg (Ms fault) o h
  by_load above (inl loaded) = by_search above loaded (searched Has test seg.start seg.count)
  by_load above (inr idle) = told NotLoaded (unloaded above idle) (record { open_group = above; unloaded = idle })

  by_group : (collected_group o h < group.0) ⊎ (group.0 ≤ collected_group o h) → GiveBackFault group Has seg (Ms fault) o h
  by_group (inl above) = by_load above (true_or_false (is_loaded h))
  by_group (inr le) = told (Late group (record { 0 = collected_group o h })) (late le) (record { same = refl; last = refl; late = le })

-- what a group holds, by the runs that it changed
pub gathered : (group : Group) (allocs frees : List Seg) (o : Origin) (h : List Noted) → IsLegal o h → 0 < group.0 → AreMaximalRuns (is_gained group.0 h) o.units allocs → AreMaximalRuns (is_given group.0 h) o.units frees
    → IsGathered group allocs frees o h
gathered group allocs frees o h legal some gained given =
    let next : (group.0 - 1) + 1 ≡ group.0 = omega arith in
    record {
      legal = legal;
      gained = gained;
      given = given;
      holds = λ u lt.
          rw (given.whole u lt, gained.whole u lt)
          (subst (λ (t : ℕ). held o h t u ≡ (not (is_given t h u) && (is_gained t h u || held o h (group.0 - 1) u))) next (unit_facts o h (group.0 - 1) u legal).adds);
    }

pub too_short : (group : Group) (room : ℕ) (o : Origin) (h : List Noted) (r : Result (Unit {0}) MsFault) (fault : MsFault) → r ≡ Err fault
    → (room < changed_runs h o.units group.0 → r ≡ Err (Short (changed_runs h o.units group.0))) → (changed_runs h o.units group.0 ≤ room → IsOk r)
    → (need : ℕ) × ((fault ≡ Short need) × IsShort group room need o h)
too_short group room o h r fault is short fits = by_room (cases_lt room (changed_runs h o.units group.0)) where
  by_room : (room < changed_runs h o.units group.0) ⊎ (changed_runs h o.units group.0 ≤ room) → (need : ℕ) × ((fault ≡ Short need) × IsShort group room need o h)
  by_room (inl lt) = (changed_runs h o.units group.0, (same_fault fault (Short (changed_runs h o.units group.0)) r is (short lt), record { runs = refl; short = lt }))
  by_room (inr le) = absurd (no_ok fault r is (fits le))
