-- A set that has no unit at or above a range, asked over more units than the range.
use Rattle.std.proofs.Common.{◌≡◌, ℕ, zero, suc, ◌+◌, ◌-◌, ◌≤◌, ◌<◌, Bool, true, false, cond, List, [], ◌∷◌, length, get_or, refl, ◌∙◌, ap, arith, ◌⊎◌, inl, inr}
use Rattle.ms_core.proofs.Words.{range-is, Seg, end_of, AreRisingFrom, Histogram, IsHistogramOf, units_in, begins_run, run_count, IsMaximalRun, AreMaximalRuns, le_or, same_not, all_units, nodes_of, units_le, units_more}

bit_none : (b : Bool) → b ≡ false → ◌≡◌ {A = ℕ} (cond b 1 0) 0
bit_none b e = rw e refl

above_by : (p : ℕ → Bool) (n k : ℕ) → ((u : ℕ) → n ≤ u → p u ≡ false) → units_in p (n + k) ≡ units_in p n
above_by p n zero none = let e : n + zero ≡ n = omega arith in ap (units_in p) e
above_by p n (suc k) none =
    let e : n + suc k ≡ n + k + 1 = omega arith in
    let more : units_in p (n + suc k) ≡ units_in p (n + k + 1) = ap (units_in p) e in
    let last = bit_none (p (n + k)) (none (n + k) (omega arith)) in
    more ∙ (units_more p (n + k) ∙ omega (arith, above_by p n k none))

pub units_above : (p : ℕ → Bool) (n units : ℕ) → n ≤ units → ((u : ℕ) → n ≤ u → p u ≡ false) → units_in p units ≡ units_in p n
units_above p n units le none = let e : units ≡ n + (units - n) = omega arith in ap (units_in p) e ∙ above_by p n (units - n) none

-- where each unit of a set is one of another
bit_mono : (a b : Bool) → (a ≡ true → b ≡ true) → cond a 1 0 ≤ cond b 1 0
bit_mono true b f = let e : b ≡ true = f refl in rw e (omega arith)
bit_mono false b f = omega arith

pub units_mono : (p q : ℕ → Bool) (n : ℕ) → ((u : ℕ) → u < n → p u ≡ true → q u ≡ true) → units_in p n ≤ units_in q n
units_mono p q zero f = omega arith
units_mono p q (suc n) f =
    let one : cond (p n) 1 0 ≤ cond (q n) 1 0 = bit_mono (p n) (q n) (f n (omega arith)) in
    let e : suc n ≡ n + 1 = omega arith in
    let left : units_in p (suc n) ≡ units_in p n + cond (p n) 1 0 = ap (units_in p) e ∙ units_more p n in
    let right : units_in q (suc n) ≡ units_in q n + cond (q n) 1 0 = ap (units_in q) e ∙ units_more q n in
    omega (arith, units_mono p q n (λ u l. f u (omega arith)))

rising_narrow : (low high range : ℕ) (segs : List Seg) → low ≤ range → AreRisingFrom low high segs → ((k : ℕ) (d : Seg) → k < length segs → end_of (get_or segs k d) ≤ range) → AreRisingFrom low range segs
rising_narrow low high range [] le a each = le
rising_narrow low high range (s ∷ ss) le a each =
    (a.0, (a.1.0, rising_narrow (end_of s) high range ss (each 0 s (omega arith)) a.1.1 (λ k d l. each (suc k) d (omega arith))))

module _ (set : ℕ → Bool) (range units : ℕ) (le : range ≤ units) (none : (u : ℕ) → range ≤ u → set u ≡ false) where
  pub size_down : units_in set units ≡ units_in set range
  size_down = units_above set range units le none

  begins_none : (u : ℕ) → range ≤ u → begins_run set u ≡ false
  begins_none u l = rw (none u l) refl

  pub count_down : run_count set units ≡ run_count set range
  count_down = units_above (begins_run set) range units le begins_none

  pub maximal_down : (run : Seg) → IsMaximalRun set units run → IsMaximalRun set range run
  maximal_down run m =
      record {
        some = m.some;
        within = by_end (le_or (end_of run) range);
        inside = m.inside;
        before = m.before;
        after = λ l. m.after (omega arith);
      } where
        by_end : (end_of run ≤ range) ⊎ (range < end_of run) → end_of run ≤ range
        by_end (inl l) = l
        by_end (inr far) =
            let some : 0 < run.count = m.some in
            absurd (same_not (m.inside (end_of run - 1) (omega arith, omega arith)) (none (end_of run - 1) (omega arith)))

  pub runs_down : (runs : List Seg) → AreMaximalRuns set units runs → AreMaximalRuns set range runs
  runs_down runs all =
      record {
        rising = rising_narrow 0 units range runs (omega arith) all.rising (λ k d l. let m = maximal_down (get_or runs k d) (all.maximal k d l) in m.within);
        maximal = λ k d l. maximal_down (get_or runs k d) (all.maximal k d l);
        whole = λ u l. all.whole u (omega arith);
      }

  pub histogram_down : (ashift : ℕ) (hist : Histogram) → IsHistogramOf set units ashift hist → IsHistogramOf set range ashift hist
  histogram_down ashift hist h = record { runs = h.runs; maximal = runs_down h.runs h.maximal; counts = h.counts }

-- the trees' range
pub range_le : (n : ℕ) → n ≤ 131072 → n ≤ all_units
range_le n h = omega (arith, range-is)

range_most : all_units ≤ 131072
range_most = omega (arith, range-is)

-- the trees never have more nodes than this
pub nodes_most : (set : ℕ → Bool) → nodes_of set ≤ 131072
nodes_most set = omega (arith, range_most, units_le (begins_run set) all_units)

-- there are no more segments than units
pub segs_few : (low high : ℕ) (segs : List Seg) → AreRisingFrom low high segs → low + length segs ≤ high
segs_few low high [] a = omega arith
segs_few low high (s ∷ ss) a = let l : low ≤ s.start = a.0 in let some : 0 < s.count = a.1.0 in omega (arith, segs_few (end_of s) high ss a.1.1)
