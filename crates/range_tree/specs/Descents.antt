-- How many nodes one descent may visit.
use Rattle.std.specs.Prelude.{ℕ, zero, suc, ◌+◌, ◌*◌, ◌^◌, nat_le, if◌then◌else◌}

-- the greatest b with 2 ^ b ≤ 2 * nodes + 1
unfoldable pub half_levels : ℕ → ℕ
half_levels zero = 0
half_levels (suc n) = if nat_le (2 ^ (half_levels n + 1)) (2 * suc n + 1) then half_levels n + 1 else half_levels n

-- how many nodes one descent visits at most in a tree of so many
abbrev pub descent : ℕ → ℕ
descent nodes = 2 * half_levels nodes + 2
