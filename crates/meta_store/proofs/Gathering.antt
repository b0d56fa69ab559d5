-- The maximal runs of a set, as they are gathered unit by unit.
use Rattle.std.proofs.Common.{◌≡◌, ℕ, ◌+◌, ◌-◌, ◌<◌, ◌≤◌, inl, inr, Bool, true, false, List, [], ◌∷◌, ◌++◌, zero, suc, sym, ◌∙◌, ap, arith}
use Rattle.std.specs.Prelude.{◌||◌}
use Rattle.std.specs.List.{All}
use Rattle.std.proofs.lemmas.List.Elements.{All-append}
use Rattle.zms_units.specs.declared.segments.Seg.{Seg}
use Rattle.zms_units.specs.Segments.{end_of, covers, covered, AreRisingFrom}
use Rattle.zms_units.specs.Runs.{IsMaximalRun, AreMaximalRuns}
use Rattle.zms_units.proofs.Bools.{or_right, or_false, le_or}
use Rattle.zms_units.proofs.Covers.{covers_yes, covers_low, covered-push}
use Rattle.zms_units.proofs.RisingSegs.{rising_high, rising_above}

-- at this unit the runs before `start` stand in the list, and the units from there on are in the set
pub record Gathers (set : ℕ → Bool) (units start unit : ℕ) (runs : List Seg) : Type 0 where
  pub low : start ≤ unit
  pub high : unit ≤ units
  pub inside : (u : ℕ) → start ≤ u → u < unit → set u ≡ true
  pub before : (u : ℕ) → u + 1 ≡ start → set u ≡ false
  pub rising : AreRisingFrom 0 start runs
  pub maximal : All (IsMaximalRun set units) runs
  pub whole : (u : ℕ) → u < start → covered runs u ≡ set u

rising_push : (low high start : ℕ) (segs : List Seg) (seg : Seg) → AreRisingFrom low start segs → start ≤ seg.start → 0 < seg.count → end_of seg ≤ high
    → AreRisingFrom low high (segs ++ seg ∷ [])
rising_push low high start [] seg a le some fits = (omega arith, (some, fits))
rising_push low high start (s ∷ ss) seg a le some fits = (a.0, (a.1.0, rising_push (end_of s) high start ss seg a.1.1 le some fits))

all_one : (P : Seg → Type 0) (seg : Seg) → P seg → All P (seg ∷ [])
all_one P seg p zero d lt = p
all_one P seg p (suc k) d lt = absurd (omega arith)

pub gathers_none : (set : ℕ → Bool) (units : ℕ) → Gathers set units 0 0 []
gathers_none set units = record {
  low = omega arith;
  high = omega arith;
  inside = λ u a b. absurd (omega arith);
  before = λ u a. absurd (omega arith);
  rising = omega arith;
  maximal = λ k d lt. absurd (omega arith);
  whole = λ u a. absurd (omega arith);
}

module _ (set : ℕ → Bool) (units start unit : ℕ) (runs : List Seg) (so_far : Gathers set units start unit runs) where
  -- a unit of the set
  pub gathers_held : unit < units → set unit ≡ true → Gathers set units start (unit + 1) runs
  gathers_held lt is = record {
    low = omega arith;
    high = omega arith;
    inside = λ u a b. elim (le_or unit u) [
      | inl last ↦ let e : u ≡ unit = omega arith in ap set e ∙ is
      | inr earlier ↦ so_far.inside u a earlier
    ];
    before = so_far.before;
    rising = so_far.rising;
    maximal = so_far.maximal;
    whole = so_far.whole;
  }

  -- a unit that is not, right after another
  pub gathers_free : unit < units → set unit ≡ false → unit ≤ start → Gathers set units (unit + 1) (unit + 1) runs
  gathers_free lt is none = record {
    low = omega arith;
    high = omega arith;
    inside = λ u a b. absurd (omega arith);
    before = λ u e. let here : u ≡ unit = omega arith in ap set here ∙ is;
    rising = rising_high 0 start (unit + 1) runs (omega arith) so_far.rising;
    maximal = so_far.maximal;
    whole = λ u a. elim (le_or start u) [
      | inl last ↦ let e : u ≡ unit = omega arith in rising_above 0 start runs so_far.rising u last ∙ sym (ap set e ∙ is)
      | inr earlier ↦ so_far.whole u earlier
    ];
  }

  -- the units from `start` on as a run, which ends here
  module _ (run : Seg) (starts : run.start ≡ start) (counts : run.count ≡ unit - start) (some : start < unit) where
    ends_here : end_of run ≡ unit
    ends_here = omega arith

    is_run : (unit < units → set unit ≡ false) → IsMaximalRun set units run
    is_run ends = record {
      some = omega arith;
      within = omega (arith, ends_here);
      inside = λ u (a, b). so_far.inside u (omega arith) (omega (arith, ends_here));
      before = λ u e. so_far.before u (omega arith);
      after = λ lt. ap set ends_here ∙ ends (omega (arith, ends_here));
    }

    rises : (high : ℕ) → unit ≤ high → AreRisingFrom 0 high (runs ++ run ∷ [])
    rises high le = rising_push 0 high start runs run so_far.rising (omega arith) (omega arith) (omega (arith, ends_here))

    are_runs : (unit < units → set unit ≡ false) → All (IsMaximalRun set units) (runs ++ run ∷ [])
    are_runs ends = All-append (IsMaximalRun set units) runs (run ∷ []) so_far.maximal (all_one (IsMaximalRun set units) run (is_run ends))

    whole_below : (u : ℕ) → u < unit → covered (runs ++ run ∷ []) u ≡ set u
    whole_below u lt =
        covered-push runs run u
        ∙ elim (le_or start u) [
          | inl in_run ↦ or_right (covered runs u) (covers run u) (covers_yes run u (omega arith) (omega (arith, ends_here))) ∙ sym (so_far.inside u in_run lt)
          | inr earlier ↦ ap (λ (b : Bool). covered runs u || b) (covers_low run u (omega arith)) ∙ or_false (covered runs u) ∙ so_far.whole u earlier
        ]

    -- a unit that is not of the set ends the run
    pub gathers_run : unit < units → set unit ≡ false → Gathers set units (unit + 1) (unit + 1) (runs ++ run ∷ [])
    gathers_run lt is = record {
      low = omega arith;
      high = omega arith;
      inside = λ u a b. absurd (omega arith);
      before = λ u e. let here : u ≡ unit = omega arith in ap set here ∙ is;
      rising = rises (unit + 1) (omega arith);
      maximal = are_runs (λ _. is);
      whole = λ u a. elim (le_or unit u) [
        | inl last ↦ let e : u ≡ unit = omega arith in rising_above 0 unit (runs ++ run ∷ []) (rises unit (omega arith)) u last ∙ sym (ap set e ∙ is)
        | inr earlier ↦ whole_below u earlier
      ];
    }

    -- the last run ends with the units
    pub gathered_run : units ≤ unit → AreMaximalRuns set units (runs ++ run ∷ [])
    gathered_run all = record {
      rising = rises units so_far.high;
      maximal = are_runs (λ lt. absurd (omega arith));
      whole = λ u lt. whole_below u (omega arith);
    }

  -- no run ends with the units
  pub gathered_none : units ≤ unit → units ≤ start → AreMaximalRuns set units runs
  gathered_none all none = record {
    rising = rising_high 0 start units runs (omega (arith, so_far.low, so_far.high)) so_far.rising;
    maximal = so_far.maximal;
    whole = λ u lt. so_far.whole u (omega arith);
  }
