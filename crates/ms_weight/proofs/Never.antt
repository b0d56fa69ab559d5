-- A set with a run of enough bytes has a weight that doesn't pass it over.
use Rattle.std.proofs.Common.{◌≡◌, ℕ, zero, suc, ◌+◌, ◌*◌, ◌/◌, ◌^◌, ◌≤◌, ◌<◌, Bool, true, cond, List, [], ◌∷◌, length, get_or, subst, sym, arith, ◌⊎◌, inl, inr}
use Rattle.std.specs.List.{count_by}
use Rattle.std.proofs.lemmas.List.Sums.{sum_by-cons}
use Rattle.std.proofs.Math.Nat.{mul-le-mul_right}
use Rattle.std.proofs.Math.Pow.{pow_mono, shr_mono}
use Rattle.std.proofs.lemmas.Nat.{pow_pos, shl-shr}
use Rattle.zms_units.specs.declared.histograms.Histogram.{Histogram}
use Rattle.zms_units.specs.declared.segments.Seg.{Seg}
use Rattle.zms_units.specs.Runs.{IsMaximalRun}
use Rattle.zms_units.specs.Weights.{is_in_bucket, IsHistogramOf, IsWeightOf, PassesOver}
use Rattle.zms_units.proofs.Bools.{le_or}
use Rattle.zms_units.proofs.Maximal.{has_each}
use Rattle.zms_units.proofs.Buckets.{Holds, BucketOf, bucket_of, in_bucket}
use Rattle.ms_weight.specs.Laws.{NeverPassedOver}

-- one that passes is counted
count_some : (p : Seg → Bool) (runs : List Seg) (k : ℕ) (d : Seg) → k < length runs → p (get_or runs k d) ≡ true → 0 < count_by p runs
count_some p [] k d l e = absurd (omega arith)
count_some p (r ∷ rs) zero d l e =
    let one : ◌≡◌ {A = ℕ} (cond (p r) 1 0) 1 = rw e in
    omega (arith, sum_by-cons (λ s. cond (p s) 1 0) r rs)
count_some p (r ∷ rs) (suc k) d l e = omega (arith, sum_by-cons (λ s. cond (p s) 1 0) r rs, count_some p rs k d (omega arith) e)

-- a run's bucket is not empty
bucket_some : (set : ℕ → Bool) (units ashift : ℕ) (hist : Histogram) (run : Seg) (bucket : ℕ) → bucket < 64 → Holds bucket (run.count * 2 ^ ashift)
    → IsHistogramOf set units ashift hist → IsMaximalRun set units run → 0 < get_or hist.runs bucket 0
bucket_some set units ashift hist run bucket below holds h m =
    let t = has_each set units h.runs run run h.maximal m in
    let here : Holds bucket ((get_or h.runs t.0 run).count * 2 ^ ashift) = subst (λ n. Holds bucket (n * 2 ^ ashift)) (sym t.3) holds in
    omega (arith, h.counts bucket below, count_some (is_in_bucket ashift bucket) h.runs t.0 run t.1 (in_bucket ashift bucket (get_or h.runs t.0 run) here))

-- the weight's index is at least the bucket of each run
index_from : (weight bucket count : ℕ) → weight ≡ bucket * 2 ^ 54 + count → bucket ≤ weight / 2 ^ 54
index_from weight bucket count e =
    let above : bucket * 2 ^ 54 / 2 ^ 54 ≤ weight / 2 ^ 54 = shr_mono 54 (omega arith) in
    omega (arith, shl-shr bucket 54)

past_bucket : (hist : Histogram) (weight bucket : ℕ) → IsWeightOf hist weight → 0 < get_or hist.runs bucket 0 → (0 < weight) × (bucket ≤ weight / 2 ^ 54)
past_bucket hist weight bucket (inl e) some = absurd (omega (arith, e.0 bucket))
past_bucket hist weight bucket (inr g) some = (positive, by_order (le_or bucket g.0)) where
  positive : 0 < weight
  positive = omega (arith, g.1.some, g.2)

  by_order : (bucket ≤ g.0) ⊎ (g.0 < bucket) → bucket ≤ weight / 2 ^ 54
  by_order (inl le) = omega (arith, index_from weight g.0 _ g.2)
  by_order (inr lt) = absurd (omega (arith, g.1.above bucket lt))

too_long : (weight bytes bucket : ℕ) → 0 < weight → bucket ≤ weight / 2 ^ 54 → bytes < 2 ^ (bucket + 1) → PassesOver weight bytes → ⊥
too_long weight bytes bucket some le short (inl e) = omega arith
too_long weight bytes bucket some le short (inr enough) =
    let up : 2 ^ (bucket + 1) ≤ 2 ^ (weight / 2 ^ 54 + 1) = pow_mono {i = bucket + 1} {j = weight / 2 ^ 54 + 1} (omega arith) in
    omega arith

pub never : NeverPassedOver
never set units ashift bytes weight hist run fits h w m enough passes = in_the (bucket_of (run.count * 2 ^ ashift) some below) where
  some : 0 < run.count * 2 ^ ashift
  some = let one = m.some in omega (arith, mul-le-mul_right {m = 1} {n = run.count} (2 ^ ashift) (omega arith), pow_pos ashift)

  below : run.count * 2 ^ ashift < 2 ^ 64
  below = let within = m.within in omega (arith, mul-le-mul_right {m = run.count} {n = units} (2 ^ ashift) (omega arith))

  in_the : BucketOf (run.count * 2 ^ ashift) → ⊥
  in_the b =
      let most = b.holds.most in
      let past = past_bucket hist weight b.bucket w (bucket_some set units ashift hist run b.bucket b.below b.holds h m) in
      too_long weight bytes b.bucket past.0 past.1 (omega arith) passes
