-- Places in a list of runs that stand apart.
use Rattle.std.proofs.Common.{◌≡◌, ℕ, zero, suc, ◌+◌, ◌-◌, ◌≤◌, ◌<◌, Bool, true, false, List, [], ◌∷◌, length, get_or, refl, sym, subst, arith, ◌⊎◌, inl, inr}
use Rattle.std.specs.Prelude.{◌&&◌, nat_le, nat_lt}
use Rattle.std.specs.List.Sorted.{IsPartitionedBy}
use Rattle.std.proofs.lemmas.Bool.Decides.{nat_tests}
use Rattle.std.proofs.lemmas.Bool.{leb-true, ltb-true, lt-ltb}
use Rattle.zms_units.specs.declared.segments.Seg.{Seg}
use Rattle.zms_units.specs.Segments.{end_of, covers, covered, Covers}
use Rattle.zms_units.specs.Apart.{AreApartFrom}
use Rattle.seg_trees.specs.Pieces.{Touches}
use Rattle.zms_units.proofs.Bools.{le_or, true_and, or_cases}
use Rattle.zms_units.proofs.Covers.{covers_true}
use Rattle.zms_units.proofs.ApartRuns.{apart_at, LiesIn, lies_in}

found_first : (r : Seg) (rs : List Seg) (u : ℕ) (d : Seg) → (covers r u ≡ true) ⊎ (covered rs u ≡ true)
    → (covered rs u ≡ true → (k : ℕ) × (k < length rs) × Covers (get_or rs k d) u) → (k : ℕ) × (k < length (r ∷ rs)) × Covers (get_or (r ∷ rs) k d) u
found_first r rs u d (inl h) later = (0, omega arith, covers_true r u h)
found_first r rs u d (inr h) later = let t = later h in (suc t.0, omega arith, t.2)

-- a unit that is covered lies in a run
pub covered_found : (runs : List Seg) (u : ℕ) (d : Seg) → covered runs u ≡ true → (k : ℕ) × (k < length runs) × Covers (get_or runs k d) u
covered_found [] u d e = absurd (none e) where
  none : false ≡ true → ⊥
  none e = cc
covered_found (r ∷ rs) u d e =
    found_first r rs u d (or_cases (covers r u) (covered rs u) e) (λ h. covered_found rs u d h)

pub bool_false : (a : Bool) → (a ≡ true → ⊥) → a ≡ false
bool_false true f = absurd (f refl)
bool_false false f = refl

-- of two runs the earlier one ends before the later one begins
pub rise : (low next : ℕ) (runs : List Seg) (i k : ℕ) (d : Seg) → AreApartFrom low next runs → i < k → k < length runs
    → end_of (get_or runs i d) + 1 ≤ (get_or runs k d).start
rise low next [] i k d a le l = absurd (omega arith)
rise low next (r ∷ rs) i zero d a le l = absurd (omega arith)
rise low next (r ∷ rs) zero (suc k) d a le l = (apart_at (end_of r + 1) next rs k d a.2 (omega arith)).0
rise low next (r ∷ rs) (suc i) (suc k) d a le l = rise (end_of r + 1) next rs i k d a.2 (omega arith) (omega arith)

pub starts_rise : (low next : ℕ) (runs : List Seg) (i k : ℕ) (d : Seg) → AreApartFrom low next runs → i ≤ k → k < length runs
    → ((get_or runs i d).start ≤ (get_or runs k d).start) × (end_of (get_or runs i d) ≤ end_of (get_or runs k d))
starts_rise low next [] i k d a le l = absurd (omega arith)
starts_rise low next (r ∷ rs) zero zero d a le l = (omega arith, omega arith)
starts_rise low next (r ∷ rs) (suc i) zero d a le l = absurd (omega arith)
starts_rise low next (r ∷ rs) zero (suc k) d a le l =
    let t = apart_at (end_of r + 1) next rs k d a.2 (omega arith) in (omega arith, omega arith)
starts_rise low next (r ∷ rs) (suc i) (suc k) d a le l = starts_rise (end_of r + 1) next rs i k d a.2 (omega arith) (omega arith)

-- the runs that end at or before a unit come first, and so do those that begin before it
abbrev pub ends_by : ℕ → Seg → Bool
ends_by unit run = nat_le run.start unit && nat_le run.count (unit - run.start)

pub ends_by_true : (unit : ℕ) (run : Seg) → ends_by unit run ≡ true → end_of run ≤ unit
ends_by_true unit run e =
    let both : (nat_le run.start unit ≡ true) × (nat_le run.count (unit - run.start) ≡ true) = true_and _ _ e in
    omega (arith, leb-true _ _ both.0, leb-true _ _ both.1)

pub ends_by_yes : (unit : ℕ) (run : Seg) → end_of run ≤ unit → ends_by unit run ≡ true
ends_by_yes unit run h = grind (arith, nat_tests)

pub ends_by_false : (unit : ℕ) (run : Seg) → ends_by unit run ≡ false → unit < end_of run
ends_by_false unit run e = by_case (le_or (end_of run) unit) where
  by_case : (end_of run ≤ unit) ⊎ (unit < end_of run) → unit < end_of run
  by_case (inl h) = let yes : ends_by unit run ≡ true = ends_by_yes unit run h in absurd (cc)
  by_case (inr h) = h

pub ended_part : (low next unit : ℕ) (runs : List Seg) → AreApartFrom low next runs → IsPartitionedBy (ends_by unit) runs
ended_part low next unit runs a i k d le l t =
    ends_by_yes unit (get_or runs i d) (omega (arith, (starts_rise low next runs i k d a le l).1, ends_by_true unit (get_or runs k d) t))

pub begun_part : (low next unit : ℕ) (runs : List Seg) → AreApartFrom low next runs → IsPartitionedBy (λ (run : Seg). nat_lt run.start unit) runs
begun_part low next unit runs a i k d le l t =
    lt-ltb _ _ (omega (arith, (starts_rise low next runs i k d a le l).0, ltb-true _ _ t))

-- a run of the list ends within its range
pub run_fits : (next : ℕ) (runs : List Seg) (k : ℕ) (run : Seg) → AreApartFrom 0 next runs → k < length runs → run ≡ get_or runs k run → (0 < run.count) × (end_of run + 1 ≤ next)
run_fits next runs k run a l e =
    let t = apart_at 0 next runs k run a l in
    (subst (λ (r : Seg). 0 < r.count) (sym e) t.1, subst (λ (r : Seg). end_of r + 1 ≤ next) (sym e) t.2)

-- a segment that is covered lies in the first run that ends after its start
pub holds_at : (next : ℕ) (runs : List Seg) (seg : Seg) (i : ℕ) (d : Seg) → AreApartFrom 0 next runs → 0 < seg.count
    → ((k : ℕ) (d : Seg) → k < i → end_of (get_or runs k d) ≤ seg.start) → ((k : ℕ) (d : Seg) → i ≤ k → k < length runs → seg.start < end_of (get_or runs k d))
    → ((u : ℕ) → Covers seg u → covered runs u ≡ true) → (i < length runs) × ((get_or runs i d).start ≤ seg.start) × (end_of seg ≤ end_of (get_or runs i d))
holds_at next runs seg i d a some below above all = found (lies_in 0 next runs seg.start seg.count d a some (λ u h l. all u (h, l))) where
  found : LiesIn runs seg.start seg.count d → (i < length runs) × ((get_or runs i d).start ≤ seg.start) × (end_of seg ≤ end_of (get_or runs i d))
  found t = by_place (le_or i t.0) (le_or t.0 i) where
    by_place : (i ≤ t.0) ⊎ (t.0 < i) → (t.0 ≤ i) ⊎ (i < t.0) → (i < length runs) × ((get_or runs i d).start ≤ seg.start) × (end_of seg ≤ end_of (get_or runs i d))
    by_place (inr h) e = absurd (omega (arith, below t.0 d h, t.3))
    by_place (inl h) (inl g) =
        (omega (arith, t.1), omega (arith, (starts_rise 0 next runs i t.0 d a h t.1).0, t.2), omega (arith, (starts_rise 0 next runs t.0 i d a g (omega (arith, t.1))).1, t.3))
    by_place (inl h) (inr g) = absurd (omega (arith, rise 0 next runs i t.0 d a g t.1, above i d (omega arith) (omega (arith, t.1)), t.2))

-- the runs that a segment touches
pub touches : (runs : List Seg) (seg : Seg) (low high : ℕ) → AreApartFrom 0 131073 runs → low ≤ length runs → high ≤ length runs
    → ((k : ℕ) (d : Seg) → k < low → end_of (get_or runs k d) ≤ seg.start - 1) → ((k : ℕ) (d : Seg) → low ≤ k → k < length runs → seg.start ≤ end_of (get_or runs k d))
    → ((k : ℕ) (d : Seg) → k < high → (get_or runs k d).start ≤ end_of seg) → ((k : ℕ) (d : Seg) → high ≤ k → k < length runs → end_of seg < (get_or runs k d).start)
    → Touches runs seg low high
touches runs seg low high a bound bound' below from till after =
    record {
      order = ordered (le_or low high);
      bound = bound';
      before = λ k d le l. omega (arith, below k d l, (apart_at 0 131073 runs k d a (omega arith)).1);
      from = from;
      till = λ k d le l. till k d l;
      after = after;
    } where
      ordered : (low ≤ high) ⊎ (high < low) → low ≤ high
      ordered (inl h) = h
      ordered (inr h) = absurd (omega (arith, below high seg h, after high seg (omega arith) (omega arith)))

-- a unit of a segment that is covered lies in the first run that ends after the segment's start, or behind it
pub met_from : (next : ℕ) (runs : List Seg) (seg : Seg) (i u : ℕ) (d : Seg) → AreApartFrom 0 next runs → ((k : ℕ) (d : Seg) → k < i → end_of (get_or runs k d) ≤ seg.start)
    → Covers seg u → covered runs u ≡ true → (i < length runs) × ((get_or runs i d).start ≤ u)
met_from next runs seg i u d a below c e =
    let t = covered_found runs u d e in
    by_place t.0 t.1 t.2 (le_or i t.0) where
      by_place : (k : ℕ) → k < length runs → Covers (get_or runs k d) u → (i ≤ k) ⊎ (k < i) → (i < length runs) × ((get_or runs i d).start ≤ u)
      by_place k l h (inl le) = (omega arith, omega (arith, (starts_rise 0 next runs i k d a le l).0, h.0))
      by_place k l h (inr lt) = absurd (omega (arith, below k d lt, h.1, c.0))
