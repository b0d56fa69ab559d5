-- Weights in hexadecimal, and lists whose lines are numbered.
use Rattle.std.specs.Prelude.{ℕ, suc, zero, ◌+◌, ◌/◌, ◌%◌, nat_lt, if◌then◌else◌, List, [], ◌∷◌, ◌++◌}

-- a digit of a hexadecimal number, in lower case
abbrev pub hex_digit : ℕ → ℕ
hex_digit d = if nat_lt d 10 then 48 + d else 87 + d

-- the last so many hexadecimal digits of a number, leading zeros too
abbrev pub hex_digits : ℕ → ℕ → List ℕ
hex_digits zero n = []
hex_digits (suc k) n = hex_digits k (n / 16) ++ (hex_digit (n % 16) ∷ [])

-- all sixteen digits of a weight
unfoldable pub weight_text : ℕ → List ℕ
weight_text w = hex_digits 16 w

-- a line for each item, with its place, the first being at this one
abbrev pub numbered : {X : Type 0} → (ℕ → X → List ℕ) → ℕ → List X → List ℕ
numbered line place [] = []
numbered line place (x ∷ xs) = line place x ++ numbered line (place + 1) xs
