-- A run that is counted, where there are units between two others.
use Rattle.std.specs.Prelude.{◌≡◌, ℕ, ◌+◌, ◌-◌, ◌<◌, ◌≤◌, ◌&&◌, nat_lt, slice_index, if◌then◌else◌}
use Rattle.zms_units.specs.Limits.{BUCKETS, MAX_UNITS}
use Rattle.zms_units.specs.Weights.{is_in_bucket}
use Rattle.zms_units.specs.declared.histograms.Histogram.{Histogram}

-- no bucket counts more runs than there may be units
abbrev pub AreFew : Histogram → Type 0
AreFew hist = (bucket : ℕ) → bucket < BUCKETS → slice_index hist.runs bucket ≤ MAX_UNITS

-- the units from one to another are counted as one run, where there are any
abbrev pub AddsGap : Histogram → Histogram → ℕ → ℕ → ℕ → Type 0
AddsGap old new start end ashift =
    (bucket : ℕ) → bucket < BUCKETS
    → slice_index new.runs bucket ≡ slice_index old.runs bucket + (if nat_lt start end && is_in_bucket ashift bucket (record { start = start; count = end - start }) then 1 else 0)
