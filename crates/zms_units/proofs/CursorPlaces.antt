-- Each count of units has a cursor.
use Rattle.std.proofs.Common.{ℕ, ◌≤◌, ◌<◌, ◌⊎◌, inl, inr, arith}
use Rattle.std.specs.Int.{w32}
use Rattle.std.proofs.lemmas.Nat.Bits.{bit_at-trailing_zeros, bit_at_above}
use Rattle.zms_units.specs.Cursors.{cursor_of}
use Rattle.zms_units.specs.Limits.{MAX_UNITS, CURSORS}
use Rattle.zms_units.proofs.Bools.{le_or}

pub cursor_below : (count : ℕ) → 1 ≤ count → count ≤ MAX_UNITS → cursor_of count < CURSORS
cursor_below count some most = by (le_or CURSORS (cursor_of count)) where
  by : (CURSORS ≤ cursor_of count) ⊎ (cursor_of count < CURSORS) → cursor_of count < CURSORS
  by (inr l) = l
  by (inl high) =
      let t = bit_at-trailing_zeros w32 count some (omega arith) in
      absurd (omega (arith, t.1, bit_at_above count CURSORS (cursor_of count) (omega arith) high))
