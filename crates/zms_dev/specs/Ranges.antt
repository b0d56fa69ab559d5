-- Sets of places as lists of byte ranges, each a first place and a length.
use Rattle.std.specs.Prelude.{ℕ, ◌⊎◌, ◌+◌, ◌<◌, ◌≤◌, List, [], ◌∷◌}

-- the place lies in one of the ranges
abbrev pub InSome : List (ℕ × ℕ) → ℕ → Type 0
InSome [] p = ⊥
InSome (range ∷ ranges) p = ((range.0 ≤ p) × (p < range.0 + range.1)) ⊎ InSome ranges p

-- the n places from `at` on lie in none of the ranges
abbrev pub AllApart : List (ℕ × ℕ) → ℕ → ℕ → Type 0
AllApart [] at n = Unit {0}
AllApart (range ∷ ranges) at n = ((at + n ≤ range.0) ⊎ (range.0 + range.1 ≤ at)) × AllApart ranges at n
