-- Counts of faults, which stand still at the end of a `u64`.
use Rattle.std.specs.Prelude.{◌≡◌, ℕ, ◌+◌, ◌-◌, ◌^◌, ◌≤◌, nat_lt, if◌then◌else◌, min, Result, OnOk, OnErr, IsErrOf}

-- the count has risen, or stands at the greatest u64
abbrev pub Rose : ℕ → ℕ → Type 0
Rose before now = min (before + 1) (2 ^ 64 - 1) ≤ now

-- one fault more, but none past the greatest u64
abbrev pub one_more : ℕ → ℕ
one_more faults = if nat_lt faults (2 ^ 64 - 1) then faults + 1 else faults

-- what was done went well, or ended with the one call that failed
pub record HasCause {T E : Type 0} (before now : ℕ) (result : Result T E) : Type 0 where
  pub later : before ≤ now
  pub steady : OnOk result (now ≡ before)
  pub failed : OnErr result (now ≡ one_more before)

-- the same of an answer that may also be want of memory, which is no fault
pub record HasCauseOf {T E : Type 0} (failed memory : E) (before now : ℕ) (result : Result T E) : Type 0 where
  pub later : before ≤ now
  pub steady : OnOk result (now ≡ before)
  pub fault : IsErrOf result failed → now ≡ one_more before
  pub free : IsErrOf result memory → now ≡ before
