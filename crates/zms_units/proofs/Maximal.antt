-- Runs that stand apart and cover a set are its maximal runs.
use Rattle.std.proofs.Common.{◌≡◌, ℕ, zero, suc, ◌+◌, ◌≤◌, ◌<◌, Bool, true, List, [], ◌∷◌, length, get_or, sym, ◌∙◌, arith, ◌⊎◌, inl, inr}
use Rattle.zms_units.specs.declared.segments.Seg.{Seg}
use Rattle.zms_units.specs.Segments.{end_of, covers, covered, Covers, AreRisingFrom}
use Rattle.zms_units.specs.Runs.{IsMaximalRun, AreMaximalRuns}
use Rattle.zms_units.specs.Apart.{AreApartFrom}
use Rattle.zms_units.proofs.Bools.{le_or, same_not, or_cases}
use Rattle.zms_units.proofs.Covers.{covers_true}
use Rattle.zms_units.proofs.ApartRuns.{apart_order, apart_at, gap_before, gap_after, covered_at, LiesIn, lies_in}

rising_of : (low low' units : ℕ) (runs : List Seg) → AreApartFrom low' (units + 1) runs → low ≤ low' → low ≤ units → AreRisingFrom low units runs
rising_of low low' units [] a le h = h
rising_of low low' units (r ∷ rs) a le h =
    (omega arith, (a.1, rising_of (end_of r) (end_of r + 1) units rs a.2 (omega arith) (omega (arith, apart_order (end_of r + 1) (units + 1) rs a.2))))

-- runs that stand apart rise
pub apart_rise : (units : ℕ) (runs : List Seg) → AreApartFrom 0 (units + 1) runs → AreRisingFrom 0 units runs
apart_rise units runs a = rising_of 0 0 units runs a (omega arith) (omega arith)

pub start_mono : (low next : ℕ) (runs : List Seg) (i k : ℕ) (d : Seg) → AreApartFrom low next runs → i ≤ k → k < length runs → (get_or runs i d).start ≤ (get_or runs k d).start
start_mono low next [] i k d a le l = absurd (omega arith)
start_mono low next (r ∷ rs) zero zero d a le l = omega arith
start_mono low next (r ∷ rs) zero (suc k) d a le l =
    let t = apart_at (end_of r + 1) next rs k d a.2 (omega arith) in omega arith
start_mono low next (r ∷ rs) (suc i) zero d a le l = absurd (omega arith)
start_mono low next (r ∷ rs) (suc i) (suc k) d a le l = start_mono (end_of r + 1) next rs i k d a.2 (omega arith) (omega arith)

-- a maximal run is as long as any other run of the set that begins in it
pub ends_last : (set : ℕ → Bool) (units : ℕ) (run other : Seg) → IsMaximalRun set units run → IsMaximalRun set units other → other.start ≤ end_of run → end_of other ≤ end_of run
ends_last set units run other m o le = by_place (le_or (end_of other) (end_of run)) where
  by_place : (end_of other ≤ end_of run) ⊎ (end_of run < end_of other) → end_of other ≤ end_of run
  by_place (inl h) = h
  by_place (inr h) = let within = o.within in absurd (same_not (o.inside (end_of run) (le, h)) (m.after (omega arith)))

-- and begins no later than any other that ends in it
pub starts_first : (set : ℕ → Bool) (units : ℕ) (run other : Seg) → IsMaximalRun set units run → IsMaximalRun set units other → run.start ≤ end_of other → run.start ≤ other.start
starts_first set units run other m o le = by_place (le_or run.start other.start) run.start refl_start where
  refl_start : run.start ≡ run.start
  refl_start = omega arith

  stuck : (n : ℕ) → run.start ≡ n → other.start < n → ⊥
  stuck zero e h = omega arith
  stuck (suc v) e h = same_not (o.inside v (omega arith, omega arith)) (m.before v (omega arith))

  by_place : (run.start ≤ other.start) ⊎ (other.start < run.start) → (n : ℕ) → run.start ≡ n → run.start ≤ other.start
  by_place (inl h) n e = h
  by_place (inr h) n e = absurd (stuck n e (omega arith))

covering : (runs : List Seg) (u : ℕ) (d : Seg) → covered runs u ≡ true → (k : ℕ) × (k < length runs) × Covers (get_or runs k d) u
covering [] u d is = absurd (cc)
covering (r ∷ rs) u d is = by_run (covering rs u d) (or_cases (covers r u) (covered rs u) is) where
  by_run : (covered rs u ≡ true → (k : ℕ) × (k < length rs) × Covers (get_or rs k d) u) → (covers r u ≡ true) ⊎ (covered rs u ≡ true)
      → (k : ℕ) × (k < length (r ∷ rs)) × Covers (get_or (r ∷ rs) k d) u
  by_run later (inl here) = (0, omega arith, covers_true r u here)
  by_run later (inr there) = let t = later there in (suc t.0, omega arith, t.2)

-- a list of all maximal runs has each of them
pub has_each : (set : ℕ → Bool) (units : ℕ) (runs : List Seg) (other d : Seg) → AreMaximalRuns set units runs → IsMaximalRun set units other
    → (k : ℕ) × (k < length runs) × ((get_or runs k d).start ≡ other.start) × ((get_or runs k d).count ≡ other.count)
has_each set units runs other d all m = found (covering runs other.start d (all.whole other.start (omega arith) ∙ m.inside other.start (omega arith, omega arith))) where
  some : 0 < other.count
  some = m.some

  within : end_of other ≤ units
  within = m.within

  found : ((k : ℕ) × (k < length runs) × Covers (get_or runs k d) other.start)
      → (k : ℕ) × (k < length runs) × ((get_or runs k d).start ≡ other.start) × ((get_or runs k d).count ≡ other.count)
  found t =
      let run : Seg = get_or runs t.0 d in
      let here : IsMaximalRun set units run = all.maximal t.0 d t.1 in
      let last : end_of other ≤ end_of run = ends_last set units run other here m (omega arith) in
      let first : other.start ≤ run.start = starts_first set units other run m here (omega arith) in
      let full : end_of run ≤ end_of other = ends_last set units other run m here (omega arith) in
      (t.0, t.1, omega arith, omega arith)

module _ (set : ℕ → Bool) (units : ℕ) (runs : List Seg) (apart : AreApartFrom 0 (units + 1) runs) (whole : (u : ℕ) → u < units → covered runs u ≡ set u) where
  pub maximal_at : (k : ℕ) (d : Seg) → k < length runs → IsMaximalRun set units (get_or runs k d)
  maximal_at k d l =
      let t = apart_at 0 (units + 1) runs k d apart l in
      record {
        some = t.1;
        within = omega arith;
        inside = λ u c. sym (whole u (omega arith)) ∙ covered_at runs k d l u c;
        before = λ u e. sym (whole u (omega arith)) ∙ gap_before 0 (units + 1) runs k d apart l u e;
        after = λ h. sym (whole (end_of (get_or runs k d)) h) ∙ gap_after 0 (units + 1) runs k d apart l;
      }

  pub apart_maximal : AreMaximalRuns set units runs
  apart_maximal = record { rising = apart_rise units runs apart; maximal = maximal_at; whole = whole }

  -- units of the set in a row lie in a run of the list
  pub row_lies : (start count : ℕ) (d : Seg) → 0 < count → start + count ≤ units → ((u : ℕ) → start ≤ u → u < start + count → set u ≡ true) → LiesIn runs start count d
  row_lies start count d some within all =
      lies_in 0 (units + 1) runs start count d apart some (λ u h l. whole u (omega arith) ∙ all u h l)

  -- each maximal run is one of the list
  abbrev pub IsAt : Seg → Seg → Type 0
  IsAt other d = (k : ℕ) × (k < length runs) × ((get_or runs k d).start ≡ other.start) × ((get_or runs k d).count ≡ other.count)

  pub maximal_is_at : (other d : Seg) → IsMaximalRun set units other → IsAt other d
  maximal_is_at other d m = found (row_lies other.start other.count d m.some m.within (λ u h l. m.inside u (h, l))) where
    found : LiesIn runs other.start other.count d → IsAt other d
    found t =
        let here = maximal_at t.0 d t.1 in
        let run : Seg = get_or runs t.0 d in
        let first : other.start ≤ run.start = starts_first set units other run m here (omega arith) in
        let last : end_of run ≤ end_of other = ends_last set units other run m here (omega arith) in
        (t.0, t.1, omega arith, omega arith)
