-- Sums over buckets, as a loop has come.
use Rattle.std.proofs.Common.{◌≡◌, ℕ, zero, suc, ◌+◌, ◌*◌, ◌^◌, ◌%◌, ◌≤◌, ◌<◌, sym, ap, subst, arith, ◌∙◌}
use Rattle.std.specs.List.{sum_by, range_with_len}
use Rattle.std.proofs.lemmas.List.Sums.{sum_by-cons}
use Rattle.std.proofs.lemmas.Nat.{mul-le}
use Rattle.std.proofs.Math.Nat.{mod-eq_of_lt}
use Rattle.std.proofs.Math.Pow.{pow_mono}
use Rattle.zms_units.specs.declared.histograms.Histogram.{Histogram}
use Rattle.zdb_report.specs.Fragmentation.{bucket_bytes, fragmented_bytes, bucket_fragmentation}

-- the sums over the buckets below one
pub record AreSums (hist : Histogram) (bucket all_bytes all_fragmented : ℕ) : Type 0 where
  pub all : all_bytes ≡ sum_by (bucket_bytes hist) (range_with_len 0 bucket)
  pub fragmented : all_fragmented ≡ sum_by (fragmented_bytes hist) (range_with_len 0 bucket)
  pub few : all_bytes ≤ bucket * 2 ^ 95
  pub part : all_fragmented ≤ 100 * all_bytes

sum_from : (f : ℕ → ℕ) (low n next at : ℕ) → n + 1 ≡ next → low + n ≡ at → sum_by f (range_with_len low next) ≡ sum_by f (range_with_len low n) + f at
sum_from f low zero zero at e h = absurd (omega arith)
sum_from f low zero (suc zero) at e h =
    let same : low ≡ at = omega arith in
    subst (λ k. sum_by f (range_with_len low 1) ≡ sum_by f (range_with_len low 0) + f k) same (omega (arith, sum_by-cons f low (range_with_len (low + 1) 0)))
sum_from f low zero (suc (suc next)) at e h = absurd (omega arith)
sum_from f low (suc n) zero at e h = absurd (omega arith)
sum_from f low (suc n) (suc next) at e h =
    omega (
      arith,
      sum_by-cons f low (range_with_len (low + 1) next),
      sum_by-cons f low (range_with_len (low + 1) n),
      sum_from f (low + 1) n next at (omega arith) (omega arith),
    )

-- one bucket more
pub sum_more : (f : ℕ → ℕ) (n : ℕ) → sum_by f (range_with_len 0 (n + 1)) ≡ sum_by f (range_with_len 0 n) + f n
sum_more f n = sum_from f 0 n (n + 1) n (omega arith) (omega arith)

-- a bucket's bytes are few, and fit
pub bytes_few : (count bucket : ℕ) → count < 4294967296 → bucket < 64 → count * 2 ^ bucket ≤ 2 ^ 95
bytes_few count bucket few lt = mul-le count (2 ^ bucket) 4294967296 9223372036854775808 (omega arith) (pow_mono {i = bucket} {j = 63} (omega arith))

pub bytes_fit : (count bucket : ℕ) → count < 4294967296 → bucket < 64 → (count * 2 ^ bucket) % 340282366920938463463374607431768211456 ≡ count * 2 ^ bucket
bytes_fit count bucket few lt = mod-eq_of_lt {n = count * 2 ^ bucket} {m = 340282366920938463463374607431768211456} (omega (arith, bytes_few count bucket few lt))

module _ (hist : Histogram) (bucket all fragmented bytes share : ℕ) (bytes_is : bytes ≡ bucket_bytes hist bucket) (few_here : bytes ≤ 2 ^ 95) (share_is : share ≡ bucket_fragmentation bucket) (most : share ≤ 100)
    (so_far : AreSums hist bucket all fragmented) where
  -- one bucket more in both sums
  pub one_more_bucket : AreSums hist (bucket + 1) (all + bytes) (fragmented + share * bytes)
  one_more_bucket = record {
    all = ap (λ (n : ℕ). all + n) bytes_is ∙ ap (λ (n : ℕ). n + bucket_bytes hist bucket) so_far.all ∙ sym (sum_more (bucket_bytes hist) bucket);
    fragmented = ap (λ (n : ℕ). fragmented + share * n) bytes_is ∙ ap (λ (n : ℕ). fragmented + n * bucket_bytes hist bucket) share_is
        ∙ ap (λ (n : ℕ). n + fragmented_bytes hist bucket) so_far.fragmented ∙ sym (sum_more (fragmented_bytes hist) bucket);
    few = let few = so_far.few in omega arith;
    part = let part = so_far.part in omega (arith, mul-le share bytes 100 bytes most (omega arith));
  }
