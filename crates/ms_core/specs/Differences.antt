-- Where two sets of units differ.
use Rattle.std.specs.Prelude.{◌≡◌, ℕ, ◌<◌, Bool, Option, Some, None}

-- they are the same on so many units
abbrev pub AgreeBelow : (ℕ → Bool) → (ℕ → Bool) → ℕ → Type 0
AgreeBelow one other units = (u : ℕ) → u < units → one u ≡ other u

-- the lowest of so many units at which they differ
pub record IsLowestDifference (one other : ℕ → Bool) (units unit : ℕ) : Type 0 where
  pub within : unit < units
  pub differs : one unit ≡ other unit → ⊥
  pub below : AgreeBelow one other unit

-- that unit, or none where there is no such unit
abbrev pub DiffersFirst : (ℕ → Bool) → (ℕ → Bool) → ℕ → Option ℕ → Type 0
DiffersFirst one other units None = AgreeBelow one other units
DiffersFirst one other units (Some unit) = IsLowestDifference one other units unit
