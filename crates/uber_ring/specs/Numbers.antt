-- Pieces of bytes, and numbers in them. Behind the end bytes read as zeros.
use Rattle.std.specs.Prelude.{◌≡◌, ℕ, ◌+◌, ◌<◌, List, length}
use Rattle.byteorder.specs.Endian.{little_from}
use Rattle.zms_dev.specs.Bytes.{byte, part, Outside}

-- the n bytes from a place on
unfoldable pub bytes_at : List ℕ → ℕ → ℕ → List ℕ
bytes_at bytes at n = part bytes at n

-- the little-endian number in the n bytes from a place on
unfoldable pub number_at : List ℕ → ℕ → ℕ → ℕ
number_at bytes at n = little_from at n bytes

-- new is old, with a piece over the bytes from a place on
pub record Puts (old new : List ℕ) (at : ℕ) (piece : List ℕ) : Type 0 where
  pub len : length new ≡ length old
  pub inside : (k : ℕ) → k < length piece → byte new (at + k) ≡ byte piece k
  pub outside : (p : ℕ) → Outside at (length piece) p → byte new p ≡ byte old p

-- new is old, with a number over the n bytes from a place on
pub record PutsNumber (old new : List ℕ) (at n value : ℕ) : Type 0 where
  pub len : length new ≡ length old
  pub is : number_at new at n ≡ value
  pub outside : (p : ℕ) → Outside at n p → byte new p ≡ byte old p
