-- What a look for some maximal run decides.
use Rattle.std.proofs.Common.{◌≡◌, ℕ, ◌*◌, ◌/◌, ◌^◌, ◌≤◌, ◌<◌, Bool, true, false, refl, sym, ap, ◌∙◌, subst, arith, ◌⊎◌, inl, inr}
use Rattle.std.specs.Prelude.{not, nat_le}
use Rattle.std.proofs.lemmas.Bool.{leb-true, le-leb}
use Rattle.zms_units.specs.declared.segments.Seg.{Seg}
use Rattle.zms_units.specs.Segments.{end_of}
use Rattle.zms_units.specs.Runs.{units_in, IsMaximalRun, IsAmple, IsNext, IsBest, IsFit, NoneInRow}
use Rattle.zms_units.proofs.Bools.{le_or}
use Rattle.zms_units.proofs.Maximal.{ends_last}
use Rattle.zms_units.proofs.Rows.{none_in_row}
use Rattle.zms_units.proofs.Fits.{fit_long}
use Rattle.ms_model.specs.Checking.{Decides, LiesBetween}

-- two maximal runs that begin together are one
pub same_run : (set : ℕ → Bool) (units : ℕ) (run other : Seg) → IsMaximalRun set units run → IsMaximalRun set units other → run.start ≡ other.start → run ≡ other
same_run set units run other m o e =
    let some = m.some in
    let some_other = o.some in
    let last : end_of other ≤ end_of run = ends_last set units run other m o (omega arith) in
    let first : end_of run ≤ end_of other = ends_last set units other run o m (omega arith) in
    let counts : run.count ≡ other.count = omega arith in
    let with_start : ℕ → Seg = λ n. record { start = n; count = run.count } in
    let with_count : ℕ → Seg = λ n. record { start = other.start; count = n } in
    ap with_start e ∙ ap with_count counts

-- some maximal run lies between these bounds
abbrev pub Some_run : (ℕ → Bool) → ℕ → ℕ → ℕ → ℕ → ℕ → Type 0
Some_run set units least most from below = (run : Seg) × (IsMaximalRun set units run × LiesBetween least most from below run)

module _ (set : ℕ → Bool) (units : ℕ) (small : units ≤ 131072) where
  bounds : (run : Seg) → IsMaximalRun set units run → (run.count ≤ 131072) × (run.start < 131072)
  bounds run m = let some = m.some in let within = m.within in (omega arith, omega arith)

  -- no run that is long enough
  pub row_decided : (found : Bool) (count least most from below : ℕ) → 0 < count → least ≡ count → most ≡ 131072 → from ≡ 0 → below ≡ 131072
      → Decides found (Some_run set units least most from below) → Decides (not found) (NoneInRow set units count)
  row_decided true count least most from below some l m f b d =
      record { holds = λ e. cc; fails = λ _ none. with_run (d.holds refl) none } where
        with_run : Some_run set units least most from below → NoneInRow set units count → ⊥
        with_run t none =
            let within = t.1.0.within in
            let long = t.1.1.0.0 in
            none t.0.start (omega arith) (λ u h lt. t.1.0.inside u (h, omega arith))
  row_decided false count least most from below some l m f b d =
      record {
        holds = λ _. none_in_row set units count some (λ run long.
            let is = long.long in
            let at = bounds run long.maximal in
            d.fails refl (run, (long.maximal, ((omega arith, omega arith), (omega arith, omega arith)))));
        fails = λ e. cc;
      }

-- the run of a fit is the one that begins where the fit does
pub fit_run : (set : ℕ → Bool) (units ashift cursor count : ℕ) (seg run : Seg) → IsMaximalRun set units run → run.start ≡ seg.start → (f : IsFit set units ashift cursor count seg) → run ≡ f.run
fit_run set units ashift cursor count seg run m e f =
    same_run set units run f.run m (fit_long set units ashift cursor count seg f).maximal (e ∙ f.starts)

-- what the fit is where no maximal run begins
pub no_fit : (set : ℕ → Bool) (units ashift cursor count : ℕ) (seg : Seg) → ((run : Seg) → IsMaximalRun set units run → run.start ≡ seg.start → ⊥) → Decides false (IsFit set units ashift cursor count seg)
no_fit set units ashift cursor count seg none =
    record { holds = λ e. cc; fails = λ _ f. none f.run (fit_long set units ashift cursor count seg f).maximal (sym f.starts) }

-- or a shorter one
pub short_fit : (set : ℕ → Bool) (units ashift cursor count : ℕ) (seg run : Seg) → IsMaximalRun set units run → run.start ≡ seg.start → run.count < count → Decides false (IsFit set units ashift cursor count seg)
short_fit set units ashift cursor count seg run m e short =
    record { holds = λ e. cc; fails = λ _ f. too_long f (fit_run set units ashift cursor count seg run m e f) } where
      too_long : (f : IsFit set units ashift cursor count seg) → run ≡ f.run → ⊥
      too_long f same =
          let long : count ≤ run.count = subst (λ (r : Seg). count ≤ r.count) (sym same) (fit_long set units ashift cursor count seg f).long in
          omega arith

-- where space is ample it is the next run
pub ample_fit : (set : ℕ → Bool) (units ashift cursor count : ℕ) (seg run : Seg) (answer : Bool) → IsMaximalRun set units run → run.start ≡ seg.start → seg.count ≡ count → IsAmple set units ashift
    → Decides answer (IsNext set units cursor count run) → Decides answer (IsFit set units ashift cursor count seg)
ample_fit set units ashift cursor count seg run answer m e counts ample d =
    record {
      holds = λ is. let next = d.holds is in record { run = run; starts = sym e; counts = counts; ample = λ _. next; scarce = λ scarce. absurd (scarce ample) };
      fails = λ is f. d.fails is (subst (λ r. IsNext set units cursor count r) (sym (fit_run set units ashift cursor count seg run m e f)) (f.ample ample));
    }

-- and else the best
pub scarce_fit : (set : ℕ → Bool) (units ashift cursor count : ℕ) (seg run : Seg) (answer : Bool) → IsMaximalRun set units run → run.start ≡ seg.start → seg.count ≡ count → (IsAmple set units ashift → ⊥)
    → Decides answer (IsBest set units count run) → Decides answer (IsFit set units ashift cursor count seg)
scarce_fit set units ashift cursor count seg run answer m e counts scarce d =
    record {
      holds = λ is. let best = d.holds is in record { run = run; starts = sym e; counts = counts; ample = λ ample. absurd (scarce ample); scarce = λ _. best };
      fails = λ is f. d.fails is (subst (λ r. IsBest set units count r) (sym (fit_run set units ashift cursor count seg run m e f)) (f.scarce scarce));
    }

module _ (ashift least count : ℕ) (is : least ≡ 131072 / 2 ^ ashift) (long : least ≤ count) where
  at_shift : (shift : ℕ) → ashift ≡ shift → least ≡ 131072 / 2 ^ shift
  at_shift shift e = subst (λ s. least ≡ 131072 / 2 ^ s) e is

  back : (shift : ℕ) → ashift ≡ shift → 131072 ≤ count * 2 ^ shift → 131072 ≤ count * 2 ^ ashift
  back shift e h = subst (λ s. 131072 ≤ count * 2 ^ s) (sym e) h

  -- so many units have 131072 bytes
  pub has_bytes : (9 ≤ ashift) × (ashift ≤ 12) → 131072 ≤ count * 2 ^ ashift
  has_bytes shift = low_pair (le_or ashift 10) where
    high_pair : (ashift ≤ 11) ⊎ (11 < ashift) → 10 < ashift → 131072 ≤ count * 2 ^ ashift
    high_pair (inl h) l = let e : ashift ≡ 11 = omega arith in back 11 e (omega (arith, at_shift 11 e))
    high_pair (inr h) l = let e : ashift ≡ 12 = omega arith in back 12 e (omega (arith, at_shift 12 e))

    last_pair : (ashift ≤ 9) ⊎ (9 < ashift) → ashift ≤ 10 → 131072 ≤ count * 2 ^ ashift
    last_pair (inl h) l = let e : ashift ≡ 9 = omega arith in back 9 e (omega (arith, at_shift 9 e))
    last_pair (inr h) l = let e : ashift ≡ 10 = omega arith in back 10 e (omega (arith, at_shift 10 e))

    low_pair : (ashift ≤ 10) ⊎ (10 < ashift) → 131072 ≤ count * 2 ^ ashift
    low_pair (inl h) = last_pair (le_or ashift 9) h
    low_pair (inr h) = high_pair (le_or ashift 11) h

-- is space ample, where a run of so many bytes was found?
pub share_decides : (set : ℕ → Bool) (units ashift least most from below : ℕ) (answer : Bool) → (9 ≤ ashift) × (ashift ≤ 12) → least ≡ 131072 / 2 ^ ashift → Some_run set units least most from below
    → Decides answer (units ≤ 25 * units_in set units) → Decides answer (IsAmple set units ashift)
share_decides set units ashift least most from below answer shift l t d =
    record { holds = λ is. record { run = t.0; maximal = t.1.0; long = long; share = d.holds is }; fails = λ is ample. d.fails is ample.share } where
      long : 131072 ≤ t.0.count * 2 ^ ashift
      long = has_bytes ashift least t.0.count l t.1.1.0.0 shift

-- a comparison of two numbers
pub le_decides : (a b units count : ℕ) → a ≡ units → b ≡ count → Decides (nat_le a (25 * b)) (units ≤ 25 * count)
le_decides a b units count e f = record { holds = λ is. omega (arith, leb-true a (25 * b) is); fails = λ is le. differ (le-leb a (25 * b) (omega arith)) is } where
  differ : nat_le a (25 * b) ≡ true → nat_le a (25 * b) ≡ false → ⊥
  differ h g = cc
