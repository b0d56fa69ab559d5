-- Counts of faults.
use Rattle.std.proofs.Common.{◌≡◌, inl, inr, ℕ, ◌-◌, ◌^◌, ◌≤◌, sym, subst, arith, Result}
use Rattle.std.proofs.lemmas.Bool.{cases_lt}
use Rattle.std.proofs.lemmas.Bool.Decides.{nat_tests}
use Rattle.zms_dev.specs.Causes.{Rose, one_more, HasCause}

pub rose_more : (faults : ℕ) → Rose faults (one_more faults)
rose_more faults = elim (cases_lt faults (2 ^ 64 - 1)) [ inl below ↦ grind (arith, nat_tests) | inr top ↦ grind (arith, nat_tests) ]

pub no_fewer : (faults : ℕ) → faults ≤ one_more faults
no_fewer faults = elim (cases_lt faults (2 ^ 64 - 1)) [ inl below ↦ grind (arith, nat_tests) | inr top ↦ grind (arith, nat_tests) ]

-- what ended with a failed call raised the count
pub rose : (before now : ℕ) → now ≡ one_more before → Rose before now
rose before now is = subst (λ (n : ℕ). Rose before n) (sym is) (rose_more before)

-- a call that went well, and then another
pub cause_then : {T E : Type 0} (before mid now : ℕ) (result : Result T E) → mid ≡ before → HasCause mid now result → HasCause before now result
cause_then before mid now result same cause = subst (λ (n : ℕ). HasCause n now result) same cause
