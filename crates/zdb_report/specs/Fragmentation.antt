-- How fragmented free space is, in percent.
use Rattle.std.specs.Prelude.{ℕ, ◌*◌, ◌-◌, ◌/◌, ◌^◌, ◌==◌, if◌then◌else◌, [], ◌∷◌, slice_index, slice_index_or}
use Rattle.std.specs.List.{sum_by, range_with_len}
use Rattle.zms_units.specs.Limits.{BUCKETS}
use Rattle.zms_units.specs.declared.histograms.Histogram.{Histogram}

-- how fragmented runs are whose length in bytes has this bit as its highest set one: from bit 9 on by this table, and none
-- behind its end
abbrev pub bucket_fragmentation : ℕ → ℕ
bucket_fragmentation bucket =
    slice_index_or (100 ∷ 100 ∷ 98 ∷ 95 ∷ 90 ∷ 80 ∷ 70 ∷ 60 ∷ 50 ∷ 40 ∷ 30 ∷ 20 ∷ 15 ∷ 10 ∷ 5 ∷ 0 ∷ []) (bucket - 9) 0

-- the bytes of the runs of a bucket, each taken as the power of two
abbrev pub bucket_bytes : Histogram → ℕ → ℕ
bucket_bytes hist bucket = slice_index hist.runs bucket * 2 ^ bucket

-- the same, as far as they are fragmented, in hundredths
abbrev pub fragmented_bytes : Histogram → ℕ → ℕ
fragmented_bytes hist bucket = bucket_fragmentation bucket * bucket_bytes hist bucket

-- which part of the bytes is fragmented, in percent and rounded down, and 0 where there are no runs
abbrev pub fragmentation_of : Histogram → ℕ
fragmentation_of hist =
    if sum_by (bucket_bytes hist) (range_with_len 0 BUCKETS) == 0 then 0
    else sum_by (fragmented_bytes hist) (range_with_len 0 BUCKETS) / sum_by (bucket_bytes hist) (range_with_len 0 BUCKETS)
