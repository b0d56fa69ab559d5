-- What a list of runs that stand apart answers, of the set of units that it covers.
use Rattle.std.proofs.Common.{◌≡◌, ℕ, ◌+◌, ◌≤◌, ◌<◌, Bool, true, false, Option, Some, None, List, length, get_or, map, min, max, unwrap_or, refl, sym, subst, ap, eq-eqb, ◌∙◌, arith, ◌⊎◌, inl, inr}
use Rattle.std.specs.Prelude.{nat_le, ◌&&◌, ◌==◌, find, IfSome, IfNone}
use Rattle.std.specs.List.{filter, reduce}
use Rattle.std.proofs.lemmas.Bool.{leb-true, le-leb, eqb-true}
use Rattle.zms_units.specs.declared.segments.Seg.{Seg}
use Rattle.zms_units.specs.Segments.{covered}
use Rattle.zms_units.specs.Apart.{AreApartFrom}
use Rattle.zms_units.specs.Runs.{IsMaximalRun, IsLongFrom, IsFirstFrom, NoneFrom, IsBest, IsLargest}
use Rattle.zms_units.proofs.Bools.{true_and, le_or, same_not}
use Rattle.zms_units.proofs.Maximal.{start_mono, maximal_at, maximal_is_at, IsAt}
use Rattle.zms_units.proofs.Scans.{count_of, IsFirstAt, find_first, find_none, HasLength, longest_bounds, longest_met, IsLeast, shortest_found, shortest_none}

no_run : Seg
no_run = record { start = 0; count = 0 }

module _ (range : ℕ) (runs : List Seg) (apart : AreApartFrom 0 (range + 1) runs) where
  is_at : (other : Seg) → IsMaximalRun (covered runs) range other → IsAt (covered runs) range runs apart (λ u l. refl) other no_run
  is_at other m = maximal_is_at (covered runs) range runs apart (λ u l. refl) other no_run m

  run_at : (k : ℕ) → k < length runs → IsMaximalRun (covered runs) range (get_or runs k no_run)
  run_at k l = maximal_at (covered runs) range runs apart (λ u l. refl) k no_run l

  pub listed_largest : (n : ℕ) → n ≡ unwrap_or (reduce max (map count_of runs)) 0 → IsLargest (covered runs) range n
  listed_largest n e = record { bounds = low; met = λ some. meets (longest_met runs (omega arith)) } where
    low : (run : Seg) → IsMaximalRun (covered runs) range run → run.count ≤ n
    low run m = let t = is_at run m in omega (arith, longest_bounds runs t.0 no_run t.1)

    meets : HasLength runs (unwrap_or (reduce max (map count_of runs)) 0) → (run : Seg) × (IsMaximalRun (covered runs) range run × (run.count ≡ n))
    meets h = (get_or runs h.0 no_run, (run_at h.0 h.1, h.2 no_run ∙ sym e))

  -- the test by which a run is looked for
  abbrev test : ℕ → ℕ → Seg → Bool
  test count at run = nat_le count run.count && nat_le at run.start

  passes : (count at : ℕ) (run : Seg) → count ≤ run.count → at ≤ run.start → test count at run ≡ true
  passes count at run long from = let a : nat_le count run.count ≡ true = le-leb _ _ long in let b : nat_le at run.start ≡ true = le-leb _ _ from in rw (a, b)

  -- a maximal run that passes is no run before the first that passes
  is_first : (p : Seg → Bool) (run : Seg) (f : IsFirstAt p runs run) (other : Seg) → IsMaximalRun (covered runs) range other → p other ≡ true → run.start ≤ other.start
  is_first p run f other m yes_p = by_place (is_at other m) where
    by_place : IsAt (covered runs) range runs apart (λ u l. refl) other no_run → run.start ≤ other.start
    by_place t = by_order (le_or f.k t.0) where
      same : get_or runs t.0 no_run ≡ other
      same =
          let with_start : ℕ → Seg = λ n. record { start = n; count = (get_or runs t.0 no_run).count } in
          let with_count : ℕ → Seg = λ n. record { start = other.start; count = n } in
          ap with_start t.2 ∙ ap with_count t.3

      by_order : (f.k ≤ t.0) ⊎ (t.0 < f.k) → run.start ≤ other.start
      by_order (inl le) =
          let first : (get_or runs f.k no_run).start ≤ (get_or runs t.0 no_run).start = start_mono 0 (range + 1) runs f.k t.0 no_run apart le t.1 in
          let here : (get_or runs f.k no_run).start ≡ run.start = ap (λ (r : Seg). r.start) (f.here no_run) in
          omega (arith, t.2)
      by_order (inr lt) = absurd (same_not yes_p (subst (λ r. p r ≡ false) same (f.before t.0 no_run lt)))

  maximal_first : (p : Seg → Bool) (run : Seg) → IsFirstAt p runs run → IsMaximalRun (covered runs) range run
  maximal_first p run f = subst (IsMaximalRun (covered runs) range) (f.here no_run) (run_at f.k f.within)

  first_found : (count at : ℕ) (run : Seg) → IsFirstAt (test count at) runs run → IsFirstFrom (covered runs) range count at run
  first_found count at run f =
      let both = true_and _ _ f.passes in
      record {
        is_long = record { maximal = maximal_first _ run f; long = leb-true _ _ both.0; from = leb-true _ _ both.1 };
        lowest = λ other l. is_first _ run f other l.maximal (passes count at other l.long l.from);
      }

  pub listed_first : (count at : ℕ) (r : Option Seg) → r ≡ find (test count at) runs → IfSome r (IsFirstFrom (covered runs) range count at)
  listed_first count at (Some run) e = first_found count at run (find_first _ runs run (sym e))
  listed_first count at None e = tt

  pub listed_none : (count at : ℕ) (r : Option Seg) → r ≡ find (test count at) runs → IfNone r (NoneFrom (covered runs) range count at)
  listed_none count at (Some run) e = tt
  listed_none count at None e = λ run l. lacks run l (is_at run l.maximal) where
    lacks : (run : Seg) → IsLongFrom (covered runs) range count at run → IsAt (covered runs) range runs apart (λ u l. refl) run no_run → ⊥
    lacks run l t =
        let long = l.long in
        let from = l.from in
        same_not (passes count at (get_or runs t.0 no_run) (omega (arith, t.3)) (omega (arith, t.2))) (find_none (test count at) runs (sym e) t.0 no_run t.1)

  -- no run is long enough
  pub listed_short : (count : ℕ) → reduce min (filter (nat_le count) (map count_of runs)) ≡ None → NoneFrom (covered runs) range count 0
  listed_short count e run l = lacks (is_at run l.maximal) where
    lacks : IsAt (covered runs) range runs apart (λ u l. refl) run no_run → ⊥
    lacks t = let long = l.long in omega (arith, shortest_none count runs e t.0 no_run t.1, t.3)

  -- the first of the shortest length
  is_length : (n : ℕ) (run : Seg) → (run.count == n) ≡ true → run.count ≡ n
  is_length n run e = eqb-true run.count n e

  best_found : (count n : ℕ) (run : Seg) → IsLeast count runs n → IsFirstAt (λ (r : Seg). r.count == n) runs run → IsBest (covered runs) range count run
  best_found count n run least f =
      let as_long : run.count ≡ n = is_length n run f.passes in
      let long = least.long in
      record {
        is_long = record { maximal = maximal_first _ run f; long = omega arith; from = omega arith };
        shortest = λ other l. short other l (is_at other l.maximal);
        lowest = λ other l e. is_first _ run f other l.maximal (eq-eqb other.count n (e ∙ as_long));
      } where
        short : (other : Seg) → IsLongFrom (covered runs) range count 0 other → IsAt (covered runs) range runs apart (λ u l. refl) other no_run → run.count ≤ other.count
        short other l t =
            let as_long : run.count ≡ n = is_length n run f.passes in
            let enough = l.long in
            omega (arith, least.bounds t.0 no_run t.1 (omega (arith, t.3)), t.3)

  pub listed_best : (count n : ℕ) (r : Option Seg) → reduce min (filter (nat_le count) (map count_of runs)) ≡ Some n → r ≡ find (λ (run : Seg). run.count == n) runs → IfSome r (IsBest (covered runs) range count)
  listed_best count n (Some run) e f = best_found count n run (shortest_found count runs n e) (find_first _ runs run (sym f))
  listed_best count n None e f = tt

  pub listed_some : (count n : ℕ) (r : Option Seg) → reduce min (filter (nat_le count) (map count_of runs)) ≡ Some n → r ≡ find (λ (run : Seg). run.count == n) runs → IfNone r (NoneFrom (covered runs) range count 0)
  listed_some count n (Some run) e f = tt
  listed_some count n None e f = absurd (lacks (shortest_found count runs n e)) where
    lacks : IsLeast count runs n → ⊥
    lacks least =
        let met = least.met in
        same_not (eq-eqb (get_or runs met.0 no_run).count n (met.2 no_run)) (find_none _ runs (sym f) met.0 no_run met.1)
