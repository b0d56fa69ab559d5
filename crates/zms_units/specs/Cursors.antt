-- The cursors, from which the fit looks on where space is ample: one for each alignment that a count may have.
use Rattle.std.specs.Prelude.{ℕ}
use Rattle.std.specs.Int.{trailing_zeros, w32}

-- the number of the cursor of a count: the place of its lowest set bit
abbrev pub cursor_of : ℕ → ℕ
cursor_of count = trailing_zeros w32 count
