-- The runs of a set, as they are gone through by rising start.
use Rattle.std.proofs.Common.{◌≡◌, ℕ, zero, suc, ◌+◌, ◌≤◌, ◌<◌, Bool, true, false, List, [], ◌∷◌, ◌++◌, length, refl, sym, ◌∙◌, ap, subst, arith, ◌⊎◌, inl, inr}
use Rattle.std.proofs.lemmas.Bool.{false_from_ne_true}
use Rattle.ms_core.proofs.Words.{◌||◌, not, Seg, end_of, covers, covered, Covers, AreApartFrom, begins_run, run_count, IsMaximalRun, IsLongFrom, IsFirstFrom, NoneFrom, AreMaximalRuns, le_or, same_not, true_and, covered-push, covers_yes, covers_low, or_none, or_right, or_false, apart_next, apart_push, apart_above, run_count-length, apart_maximal, ends_last, around, length-append}
use Rattle.ms_core.proofs.Narrowing.{units_mono}

-- the runs up to a unit, which no run crosses
pub record Walks (set : ℕ → Bool) (units at : ℕ) (runs : List Seg) : Type 0 where
  pub next : ℕ
  pub near : next ≤ at + 1
  pub within : at ≤ units
  pub apart : AreApartFrom 0 next runs
  pub whole : (u : ℕ) → u < at → covered runs u ≡ set u
  pub begins : (u : ℕ) → at ≤ u → set u ≡ true → next ≤ u
  pub edge : (run : Seg) → IsMaximalRun set units run → at < end_of run → at ≤ run.start

module _ (set : ℕ → Bool) (units : ℕ) (none : (u : ℕ) → units ≤ u → set u ≡ false) (at : ℕ) (runs : List Seg) (w : Walks set units at runs) where
  -- above the place the runs cover nothing
  above : (u : ℕ) → at ≤ u → covered runs u ≡ false
  above u l = let near : w.next ≤ at + 1 = w.near in apart_above 0 w.next runs w.apart u (omega arith)

  -- a unit of the set at or above the place lies in a run that comes next, or later
  found : (u : ℕ) → at ≤ u → u < units → set u ≡ true → (run : Seg) × IsLongFrom set units 1 at run × (run.start ≤ u)
  found u l h e =
      let t = around set units u h e in
      let here : Covers t.run u = t.covers in
      let some : 0 < t.run.count = t.maximal.some in
      let there : at ≤ t.run.start = w.edge t.run t.maximal (omega arith) in
      (t.run, record { maximal = t.maximal; long = omega arith; from = there }, here.0)

  module _ (run : Seg) (first : IsFirstFrom set units 1 at run) where
    from : at ≤ run.start
    from = first.is_long.from

    some : 0 < run.count
    some = first.is_long.maximal.some

    -- between the place and the next run there is nothing, and nothing at its end
    gap : (u : ℕ) → at ≤ u → u < run.start → set u ≡ false
    gap u l h = false_from_ne_true (set u) none_there where
      none_there : set u ≡ true → ⊥
      none_there e =
          let end : end_of run ≤ units = first.is_long.maximal.within in
          let t = found u l (omega arith) e in
          let low : run.start ≤ t.0.start = first.lowest t.0 t.1 in
          omega (arith, t.2)

    ended : (units ≤ end_of run) ⊎ (end_of run < units) → set (end_of run) ≡ false
    ended (inl far) = none (end_of run) far
    ended (inr near) = first.is_long.maximal.after near

    cover_step : (u : ℕ) → u < end_of run → (at ≤ u) ⊎ (u < at) → (run.start ≤ u) ⊎ (u < run.start) → (covered runs u || covers run u) ≡ set u
    cover_step u l (inr low) p = let c : covers run u ≡ false = covers_low run u (let f : at ≤ run.start = from in omega arith) in rw c (rw (or_false (covered runs u)) (w.whole u low))
    cover_step u l (inl high) (inr low) = or_none (covered runs u) (covers run u) (above u high) (covers_low run u low) ∙ sym (gap u high low)
    cover_step u l (inl high) (inl there) = or_right (covered runs u) (covers run u) (covers_yes run u there l) ∙ sym (first.is_long.maximal.inside u (there, l))

    past : (u : ℕ) → end_of run ≤ u → set u ≡ true → (end_of run + 1 ≤ u) ⊎ (u < end_of run + 1) → end_of run + 1 ≤ u
    past u l e (inl h) = h
    past u l e (inr h) = let same : u ≡ end_of run = omega arith in absurd (same_not (subst (λ n. set n ≡ true) same e) (ended (le_or units (end_of run))))

    pub walks_more : Walks set units (end_of run) (runs ++ run ∷ [])
    walks_more =
        let f : at ≤ run.start = from in
        record {
          next = end_of run + 1;
          near = omega arith;
          within = first.is_long.maximal.within;
          apart = apart_push 0 w.next runs run w.apart (w.begins run.start from (first.is_long.maximal.inside run.start (omega arith, omega (arith, some)))) some;
          whole = λ u l. covered-push runs run u ∙ cover_step u l (le_or at u) (le_or run.start u);
          begins = λ u l e. past u l e (le_or (end_of run + 1) u);
          edge = λ other m l. by_start other m l (le_or (end_of run) other.start);
        } where
          by_start : (other : Seg) → IsMaximalRun set units other → end_of run < end_of other → (end_of run ≤ other.start) ⊎ (other.start < end_of run) → end_of run ≤ other.start
          by_start other m l (inl h) = h
          by_start other m l (inr h) = let last : end_of other ≤ end_of run = ends_last set units run other first.is_long.maximal m (omega arith) in absurd (omega arith)

  -- where no further run comes, these are all
  module _ (last : NoneFrom set units 1 at) where
    rest : (u : ℕ) → at ≤ u → u < units → set u ≡ false
    rest u l h = false_from_ne_true (set u) (λ e. let t = found u l h e in last t.0 t.1)

    all_covered : (u : ℕ) → u < units → (at ≤ u) ⊎ (u < at) → covered runs u ≡ set u
    all_covered u h (inr low) = w.whole u low
    all_covered u h (inl high) = above u high ∙ sym (rest u high h)

    pub walks_all : AreMaximalRuns set units runs
    walks_all =
        let near : w.next ≤ at + 1 = w.near in
        let within : at ≤ units = w.within in
        apart_maximal set units runs (apart_next 0 w.next (units + 1) runs (omega arith) w.apart) (λ u h. all_covered u h (le_or at u))

  -- there are no more of them than the set has

  -- a unit of the runs lies below the place, and the set has it
  of_set : (u : ℕ) → covered runs u ≡ true → (u < at) × (set u ≡ true)
  of_set u e = by_place (le_or at u) where
    by_place : (at ≤ u) ⊎ (u < at) → (u < at) × (set u ≡ true)
    by_place (inl high) = absurd (same_not e (above u high))
    by_place (inr low) = (low, sym (w.whole u low) ∙ e)

  begins_also : (u : ℕ) → begins_run (covered runs) u ≡ true → begins_run set u ≡ true
  begins_also zero e = let both = true_and (covered runs 0) true e in rw ((of_set 0 both.0).1) refl
  begins_also (suc u) e =
      let both = true_and (covered runs (suc u)) (not (covered runs u)) e in
      let here = of_set (suc u) both.0 in
      let low : u < at = let l : suc u < at = here.0 in omega arith in
      let before : not (set u) ≡ true = ap not (sym (w.whole u low)) ∙ both.1 in
      rw (here.1, before) refl

  pub walks_few : length runs ≤ run_count set units
  walks_few =
      let near : w.next ≤ at + 1 = w.near in
      let within : at ≤ units = w.within in
      let same : run_count (covered runs) units ≡ length runs = run_count-length 0 units runs (apart_next 0 w.next (units + 1) runs (omega arith) w.apart) in
      omega (arith, units_mono (begins_run (covered runs)) (begins_run set) units (λ u l. begins_also u))

-- so there is room for the next one
pub walks_room : (set : ℕ → Bool) (units : ℕ) (none : (u : ℕ) → units ≤ u → set u ≡ false) (at : ℕ) (runs : List Seg) (w : Walks set units at runs) (run : Seg) → IsFirstFrom set units 1 at run
    → length runs + 1 ≤ run_count set units
walks_room set units none at runs w run first =
    omega (arith, length-append runs (run ∷ []), walks_few set units none (end_of run) (runs ++ run ∷ []) (walks_more set units none at runs w run first))
