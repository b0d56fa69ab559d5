-- Bytes of a device: what it reads as, and what a write or a tear makes of them.
use Rattle.std.specs.Prelude.{◌≡◌, ℕ, ◌+◌, ◌-◌, ◌<◌, ◌≤◌, min, max, List, [], ◌∷◌, ◌++◌, length, take, drop, map, replicate, slice_index}
use Rattle.std.specs.List.{range_with_len}

-- the byte at a place; behind the end a device reads as zeros
abbrev pub byte : List ℕ → ℕ → ℕ
byte image p = slice_index image p

-- n bytes from a place on, as a device reads: zeros behind the end
abbrev pub part : List ℕ → ℕ → ℕ → List ℕ
part image at n = map (λ p. byte image p) (range_with_len at n)

-- the place lies in none of the n places from `at` on
abbrev pub Outside : ℕ → ℕ → ℕ → Type 0
Outside at n p = at ≤ p → at + n ≤ p

-- new is old with these bytes at this place
pub record Holds (old : List ℕ) (at : ℕ) (bytes new : List ℕ) : Type 0 where
  pub inside : (k : ℕ) → k < length bytes → byte new (at + k) ≡ byte bytes k
  pub outside : (p : ℕ) → Outside at (length bytes) p → byte new p ≡ byte old p
  pub no_shorter : length old ≤ length new
  pub reaches : 0 < length bytes → at + length bytes ≤ length new
  pub no_longer : length new ≤ max (length old) (at + length bytes)

-- old with zeros behind it, up to this end
abbrev pub grown : List ℕ → ℕ → List ℕ
grown old end = old ++ replicate (end - length old) 0

-- old with these bytes at this place, and zeros between its end and them; no bytes change nothing
abbrev pub overwritten : List ℕ → ℕ → List ℕ → List ℕ
overwritten old at [] = old
overwritten old at (first ∷ rest) =
    let bytes = first ∷ rest in
    let all = grown old (at + length bytes) in
    take at all ++ bytes ++ drop (at + length bytes) all

-- what a tear leaves: each spared place before the old end is as it was, all else is anything
pub record Torn (spared : ℕ → Type 0) (old new : List ℕ) : Type 0 where
  pub same : (p : ℕ) → p < length old → spared p → byte new p ≡ byte old p
  pub no_shorter : length old ≤ length new

-- new reads as old but in the n places from `at` on
pub record DiffersOnlyIn (at n : ℕ) (old new : List ℕ) : Type 0 where
  pub outside : (p : ℕ) → Outside at n p → byte new p ≡ byte old p

-- the image reads as `a` at each kept place, and each lies before its end
pub record Same (kept : ℕ → Type 0) (a image : List ℕ) : Type 0 where
  pub lies : (p : ℕ) → kept p → p < length image
  pub same : (p : ℕ) → kept p → byte image p ≡ byte a p

-- a read gave the bytes before the end, as many as fit, at the front of the buffer
pub record Gives (bytes : List ℕ) (at n : ℕ) (buf : List ℕ) : Type 0 where
  pub count : n ≡ min (length buf) (length bytes - at)
  pub front : (k : ℕ) → k < n → byte buf k ≡ byte bytes (at + k)
