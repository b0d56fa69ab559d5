-- How many runs of each length a set of units has, and the weight that this gives, by which metaslabs are compared.
use Rattle.std.specs.Prelude.{◌≡◌, ℕ, ◌+◌, ◌*◌, ◌/◌, ◌^◌, ◌<◌, ◌≤◌, ◌⊎◌, ◌&&◌, Bool, nat_le, nat_lt, List, slice_index}
use Rattle.std.specs.List.{count_by}
use Rattle.zms_units.specs.declared.histograms.Histogram.{Histogram}
use Rattle.zms_units.specs.declared.segments.Seg.{Seg}
use Rattle.zms_units.specs.Limits.{BUCKETS}
use Rattle.zms_units.specs.Runs.{AreMaximalRuns}

-- is this bit the highest set bit of a run's length in bytes?
abbrev pub is_in_bucket : ℕ → ℕ → Seg → Bool
is_in_bucket ashift bucket run = nat_le (2 ^ bucket) (run.count * 2 ^ ashift) && nat_lt (run.count * 2 ^ ashift) (2 ^ (bucket + 1))

-- each bucket counts the maximal runs of a set that are in it
pub record IsHistogramOf (set : ℕ → Bool) (units ashift : ℕ) (hist : Histogram) : Type 0 where
  pub runs : List Seg
  pub maximal : AreMaximalRuns set units runs
  pub counts : (bucket : ℕ) → bucket < BUCKETS → slice_index hist.runs bucket ≡ count_by (is_in_bucket ashift bucket) runs

-- the greatest bucket that is not empty
pub record IsGreatest (hist : Histogram) (bucket : ℕ) : Type 0 where
  pub within : bucket < BUCKETS
  pub some : 0 < slice_index hist.runs bucket
  pub above : (other : ℕ) → bucket < other → slice_index hist.runs other ≡ 0

-- all buckets are empty
abbrev pub IsEmpty : Histogram → Type 0
IsEmpty hist = (bucket : ℕ) → slice_index hist.runs bucket ≡ 0

-- the weight of a histogram: its greatest bucket times 2^54, plus the count of that bucket, and 0 where all are empty
abbrev pub IsWeightOf : Histogram → ℕ → Type 0
IsWeightOf hist weight = (IsEmpty hist × (weight ≡ 0)) ⊎ ((bucket : ℕ) × IsGreatest hist bucket × (weight ≡ bucket * 2 ^ 54 + slice_index hist.runs bucket))

-- a weight shows that no run has so many bytes
abbrev pub PassesOver : ℕ → ℕ → Type 0
PassesOver weight bytes = (weight ≡ 0) ⊎ (2 ^ (weight / 2 ^ 54 + 1) ≤ bytes)
