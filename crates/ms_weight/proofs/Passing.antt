-- When a number of bytes reaches a power of two.
use Rattle.std.proofs.Common.{◌≡◌, ℕ, ◌+◌, ◌*◌, ◌%◌, ◌/◌, ◌^◌, ◌≤◌, ◌<◌, IsTrue, arith, ◌⊎◌, inl, inr}
use Rattle.std.specs.Prelude.{nat_eq, not}
use Rattle.std.proofs.Math.Nat.{div-mul-le_self, mul-le-mul_right, mod-lt}
use Rattle.std.proofs.Math.Pow.{pow_mono}
use Rattle.std.proofs.lemmas.Nat.{shr_split, pow_pos}
use Rattle.std.proofs.lemmas.Bool.Decides.{nat_tests}
use Rattle.zms_units.proofs.Bools.{le_or}

-- what is shifted out leaves nothing exactly where it is below the power
shift_some : (bytes k : ℕ) → 2 ^ k ≤ bytes → 1 ≤ bytes / 2 ^ k
shift_some bytes k enough = by_order (le_or 1 (bytes / 2 ^ k)) where
  by_order : (1 ≤ bytes / 2 ^ k) ⊎ (bytes / 2 ^ k < 1) → 1 ≤ bytes / 2 ^ k
  by_order (inl h) = h
  by_order (inr h) =
      let none : bytes / 2 ^ k ≡ 0 = omega arith in
      absurd (below (rw none at (shr_split bytes k))) where
        below : 0 * 2 ^ k + bytes % 2 ^ k ≡ bytes → ⊥
        below e = omega (arith, e, mod-lt bytes (pow_pos k))

shift_none : (bytes k : ℕ) → 1 ≤ bytes / 2 ^ k → 2 ^ k ≤ bytes
shift_none bytes k some = omega (arith, div-mul-le_self bytes (2 ^ k), mul-le-mul_right (2 ^ k) some)

is_some : (n : ℕ) → IsTrue (not (nat_eq n 0)) → 1 ≤ n
is_some n e = grind (arith, nat_tests)

some_is : (n : ℕ) → 1 ≤ n → IsTrue (not (nat_eq n 0))
some_is n h = grind (arith, nat_tests)

-- a shift by less than 64 tells whether a power is reached
pub shift_tells : (bytes k : ℕ) → (IsTrue (not (nat_eq (bytes / 2 ^ k) 0)) → 2 ^ k ≤ bytes) × (2 ^ k ≤ bytes → IsTrue (not (nat_eq (bytes / 2 ^ k) 0)))
shift_tells bytes k = ((λ e. shift_none bytes k (is_some _ e)), (λ enough. some_is _ (shift_some bytes k enough)))

-- and a greater power is not reached
pub never_reached : (bytes k : ℕ) → bytes < 2 ^ 64 → 64 ≤ k → 2 ^ k ≤ bytes → ⊥
never_reached bytes k fits high enough =
    let least : 2 ^ 64 ≤ 2 ^ k = pow_mono {i = 64} {j = k} high in
    omega arith
