-- The digits of a weight, written from the last to the first, and that they fix it.
use Rattle.std.proofs.Common.{◌≡◌, ℕ, zero, suc, ◌+◌, ◌/◌, ◌%◌, ◌^◌, ◌≤◌, ◌<◌, List, [], ◌∷◌, ◌++◌, length, drop, refl, sym, ◌∙◌, ap, append_assoc, add-one, arith}
use Rattle.std.proofs.Math.ListN.{set}
use Rattle.std.proofs.Math.Nat.{pow-suc, pow-zero}
use Rattle.std.proofs.lemmas.List.{append-nil, drop-set}
use Rattle.std.proofs.lemmas.Bool.Decides.{nat_tests}
use Rattle.trace_text.specs.Numbers.{hex_digit, hex_digits, weight_text}

pub digits_init : (w : ℕ) → weight_text w ≡ hex_digits 16 w ++ []
unfolding weight_text
digits_init w = sym (append-nil (hex_digits 16 w))

digit_at : (k rest g : ℕ) (text : List ℕ) → k < length text → g ≡ hex_digit (rest % 16)
    → hex_digit (rest % 16) ∷ drop (suc k) text ≡ drop k (set text k g)
digit_at k rest g text within is = sym (drop-set text k g within ∙ rw (add-one, is) refl)

pub digits_step : (a j rest g : ℕ) (text all : List ℕ) → j + 1 ≡ a → a ≤ length text → g ≡ hex_digit (rest % 16) → all ≡ hex_digits a rest ++ drop a text
    → all ≡ hex_digits j (rest / 16) ++ drop j (set text j g)
digits_step zero j rest g text all less within is e = absurd (omega arith)
digits_step (suc k) j rest g text all less within is e =
    e ∙ (append_assoc (hex_digits k (rest / 16)) _ _ ∙ (ap (λ l. hex_digits k (rest / 16) ++ l) (digit_at k rest g text (omega arith) is)
    ∙ ap (λ i. hex_digits i (rest / 16) ++ drop i (set text i g)) {x = k} {y = j} (omega arith)))

hex_digit_same : (a b : ℕ) → a < 16 → b < 16 → hex_digit a ≡ hex_digit b → a ≡ b
hex_digit_same a b low high e = grind (arith, nat_tests)

value_same : (w v : ℕ) → w / 16 ≡ v / 16 → w % 16 ≡ v % 16 → w ≡ v
value_same w v high low = omega arith

digits_fixed : (k w v : ℕ) (r s : List ℕ) → w < 16 ^ k → v < 16 ^ k → hex_digits k w ++ r ≡ hex_digits k v ++ s → (w ≡ v) × (r ≡ s)
digits_fixed zero w v r s low high e = (omega (arith, pow-zero 16), e)
digits_fixed (suc k) w v r s low high e =
    let f = sym (append_assoc (hex_digits k (w / 16)) (hex_digit (w % 16) ∷ []) r) ∙ (e ∙ append_assoc (hex_digits k (v / 16)) (hex_digit (v % 16) ∷ []) s) in
    let i = digits_fixed k (w / 16) (v / 16) (hex_digit (w % 16) ∷ r) (hex_digit (v % 16) ∷ s) (omega (arith, pow-suc 16 k)) (omega (arith, pow-suc 16 k)) f in
    let d : hex_digit (w % 16) ≡ hex_digit (v % 16) = cc (i.1) in
    let t : r ≡ s = cc (i.1) in
    (value_same w v i.0 (hex_digit_same (w % 16) (v % 16) (omega arith) (omega arith) d), t)

pub weight_fixed : (w v : ℕ) (r s : List ℕ) → w < 2 ^ 64 → v < 2 ^ 64 → weight_text w ++ r ≡ weight_text v ++ s → (w ≡ v) × (r ≡ s)
unfolding weight_text
weight_fixed w v r s low high e = digits_fixed 16 w v r s (omega arith) (omega arith) e
