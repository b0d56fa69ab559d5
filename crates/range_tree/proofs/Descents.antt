-- The bound of one descent.
use Rattle.std.proofs.Common.{◌≡◌, ℕ, zero, suc, ◌+◌, ◌*◌, ◌^◌, ◌<◌, ◌≤◌, Bool, true, false, leb, refl, arith, ◌⊎◌, inl, inr, cond}
use Rattle.std.proofs.lemmas.Bool.{leb-true, leb-false, cases_lt}
use Rattle.std.proofs.Math.Pow.{pow_mono}
use Rattle.seg_order.specs.Trees.{FewVisits}
use Rattle.range_tree.specs.Descents.{half_levels, descent}

-- a power that fits is no higher
pub half_most : (n b : ℕ) → 2 ^ b ≤ 2 * n + 1 → b ≤ half_levels n
unfolding half_levels
half_most zero zero h = omega arith
half_most zero (suc b) h = absurd (omega (arith, positive b))
  where
    positive : (k : ℕ) → 1 ≤ 2 ^ k
    positive zero = omega arith
    positive (suc k) = omega (arith, positive k)
half_most (suc n) b h = by_test (half_most n) (leb (2 ^ (half_levels n + 1)) (2 * suc n + 1)) refl
  where
    by_test : ((c : ℕ) → 2 ^ c ≤ 2 * n + 1 → c ≤ half_levels n) → (t : Bool) → leb (2 ^ (half_levels n + 1)) (2 * suc n + 1) ≡ t → b ≤ cond t (half_levels n + 1) (half_levels n)
    by_test less true e = small b h
      where
        small : (b : ℕ) → 2 ^ b ≤ 2 * suc n + 1 → b ≤ half_levels n + 1
        small zero h = omega arith
        small (suc b) h = omega (arith, less b (omega arith))
    by_test less false e = by_height (cases_lt (half_levels n) b)
      where
        by_height : (half_levels n < b) ⊎ (b ≤ half_levels n) → b ≤ half_levels n
        by_height (inr low) = low
        by_height (inl high) = absurd (omega (arith, leb-false _ _ e, pow_mono {i = half_levels n + 1} {j = b} (omega arith)))

-- one descent is no longer in a smaller tree
half_rises : (n : ℕ) → 2 ^ half_levels n ≤ 2 * n + 1
unfolding half_levels
half_rises zero = omega arith
half_rises (suc n) = by_test (half_rises n) (leb (2 ^ (half_levels n + 1)) (2 * suc n + 1)) refl
  where
    by_test : 2 ^ half_levels n ≤ 2 * n + 1 → (t : Bool) → leb (2 ^ (half_levels n + 1)) (2 * suc n + 1) ≡ t → 2 ^ (cond t (half_levels n + 1) (half_levels n)) ≤ 2 * suc n + 1
    by_test less true e = leb-true _ _ e
    by_test less false e = omega (arith, less)

pub descent_mono : (n m : ℕ) → n ≤ m → descent n ≤ descent m
descent_mono n m le = omega (arith, half_most m (half_levels n) (omega (arith, half_rises n)))

-- one descent where a power does not fit
pub descent_below : (n b : ℕ) → 2 * n + 1 < 2 ^ (b + 1) → descent n ≤ 2 * b + 2
descent_below n b few = by_height (cases_lt b (half_levels n))
  where
    by_height : (b < half_levels n) ⊎ (half_levels n ≤ b) → descent n ≤ 2 * b + 2
    by_height (inr low) = omega (arith, low)
    by_height (inl high) = absurd (omega (arith, half_rises n, few, pow_mono {i = b + 1} {j = half_levels n} (omega (arith, high))))

pub one_descent : (v n : ℕ) → FewVisits v n → v ≤ descent n
one_descent v n f = omega (arith, half_most n f.half f.fits, f.few)

half_low : (n : ℕ) → half_levels n ≤ n
unfolding half_levels
half_low zero = omega arith
half_low (suc n) = by_test (half_low n) (leb (2 ^ (half_levels n + 1)) (2 * suc n + 1))
  where
    by_test : half_levels n ≤ n → (t : Bool) → cond t (half_levels n + 1) (half_levels n) ≤ suc n
    by_test low true = omega (arith, low)
    by_test low false = omega (arith, low)

pub descent_low : (n : ℕ) → descent n ≤ 2 * n + 2
descent_low n = omega (arith, half_low n)
