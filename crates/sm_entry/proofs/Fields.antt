-- Fields of a word, joined by `|`.
use Rattle.std.proofs.Common.{◌≡◌, ℕ, ◌+◌, ◌*◌, ◌/◌, ◌%◌, ◌^◌, ◌<◌, [], ◌∷◌, bit_or, ◌∙◌, ap, subst, arith}
use Rattle.std.proofs.lemmas.Nat.{shr_split, or_shifted}

-- a number below the lowest bit of another is added
pub or_below : (k a b : ℕ) → a % 2 ^ k ≡ 0 → b < 2 ^ k → bit_or a b ≡ a + b
or_below k a b clear below =
    let split : a / 2 ^ k * 2 ^ k ≡ a = omega (arith, shr_split a k, clear) in
    let P : ℕ → Type 0 = λ n. bit_or n b ≡ n + b in
    subst P split (or_shifted (a / 2 ^ k) k b below)

-- and so is a third
pub or_two_below : (j k a b d : ℕ) → a % 2 ^ j ≡ 0 → b < 2 ^ j → (a + b) % 2 ^ k ≡ 0 → d < 2 ^ k → bit_or (bit_or a b) d ≡ a + b + d
or_two_below j k a b d clear below clear' below' =
    ap (λ n. bit_or n d) (or_below j a b clear below) ∙ or_below k (a + b) d clear' below'

-- and a fourth
pub or_three_below : (i j k a b d e : ℕ) → a % 2 ^ i ≡ 0 → b < 2 ^ i → (a + b) % 2 ^ j ≡ 0 → d < 2 ^ j → (a + b + d) % 2 ^ k ≡ 0 → e < 2 ^ k → bit_or (bit_or (bit_or a b) d) e ≡ a + b + d + e
or_three_below i j k a b d e clear below clear' below' clear'' below'' =
    ap (λ n. bit_or n e) (or_two_below i j a b d clear below clear' below') ∙ or_below k (a + b + d) e clear'' below''

-- two words are what they should be, each for itself
pub both_same : (a b a' b' : ℕ) → a ≡ a' → b ≡ b' → a ∷ b ∷ [] ≡ a' ∷ b' ∷ []
both_same a b a' b' first second = cc
