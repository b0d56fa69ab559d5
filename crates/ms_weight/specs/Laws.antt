-- The laws of weights.
use Rattle.std.specs.Prelude.{ℕ, ◌*◌, ◌^◌, ◌<◌, ◌≤◌, Bool}
use Rattle.zms_units.specs.declared.histograms.Histogram.{Histogram}
use Rattle.zms_units.specs.declared.segments.Seg.{Seg}
use Rattle.zms_units.specs.Runs.{IsMaximalRun}
use Rattle.zms_units.specs.Weights.{IsHistogramOf, IsWeightOf, PassesOver}

-- the weight of a set of units, which have less than 2^64 bytes in all, passes over no length that one of its maximal
-- runs has
abbrev pub NeverPassedOver : Type 0
NeverPassedOver =
    (set : ℕ → Bool) (units ashift bytes weight : ℕ) (hist : Histogram) (run : Seg) → units * 2 ^ ashift < 2 ^ 64
    → IsHistogramOf set units ashift hist → IsWeightOf hist weight → IsMaximalRun set units run → bytes ≤ run.count * 2 ^ ashift → PassesOver weight bytes → ⊥
