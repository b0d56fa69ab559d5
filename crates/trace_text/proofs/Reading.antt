-- What a text fixes: numbers and lines are read off its front in one way.
use Rattle.std.proofs.Common.{◌≡◌, ℕ, zero, suc, ◌+◌, ◌/◌, ◌%◌, ◌^◌, ◌≤◌, ◌<◌, Bool, true, false, cond, List, [], ◌∷◌, ◌++◌, get_or, ◌*◌, refl, sym, ◌∙◌, ap, subst, append_assoc, arith}
use Rattle.std.proofs.lemmas.List.{append_cancel_left}
use Rattle.std.specs.List.{All, flat_map}
use Rattle.std.specs.Prelude.{decimal}
use Rattle.std.specs.Fmt.{digits, digits_onto, digit_glyph}
use Rattle.std.proofs.lemmas.Fmt.{decimal_injective}
use Rattle.trace_text.specs.Numbers.{numbered}
use lib.Dec.{eqb}
use borrow.Author.Tests.{lt-ltb}

-- the bytes of a number in digits
abbrev Digits : List ℕ → Type 0
Digits [] = Unit {0}
Digits (x ∷ xs) = (48 ≤ x) × (x < 58) × Digits xs

glyph_is : (d : ℕ) → d < 10 → digit_glyph false d ≡ 48 + d
glyph_is d low = ap (λ (b : Bool). cond b (48 + d) (87 + d)) (lt-ltb d 10 low)

glyph_digits : (d : ℕ) (acc : List ℕ) → d < 10 → Digits acc → Digits (digit_glyph false d ∷ acc)
glyph_digits d acc low all = let e = glyph_is d low in (omega arith, omega arith, all)

onto_digits : (k n : ℕ) (acc : List ℕ) → Digits acc → Digits (digits_onto k 10 false n acc)
onto_digits zero n acc all = all
onto_digits (suc k) n acc all =
    let more = glyph_digits (n % 10) acc (omega arith) all in
    either (eqb (n / 10) 0) _ _ more (onto_digits k (n / 10) (digit_glyph false (n % 10) ∷ acc) more)
  where
    either : (b : Bool) (xs ys : List ℕ) → Digits xs → Digits ys → Digits (cond b xs ys)
    either true xs ys p q = p
    either false xs ys p q = q

decimal_digits : (n : ℕ) → Digits (decimal n)
unfolding digits
decimal_digits n = onto_digits 64 n [] tt

-- the first byte of a text
abbrev pub first : List ℕ → ℕ
first [] = 0
first (x ∷ xs) = x

-- the first three bytes of a text, by which words are told apart
abbrev pub key : List ℕ → ℕ
key l = 65536 * get_or l 0 0 + (256 * get_or l 1 0 + get_or l 2 0)

-- digits end where another byte stands
digits_end : (xs ys r s : List ℕ) → Digits xs → Digits ys → first r < 48 → first s < 48 → xs ++ r ≡ ys ++ s → (xs ≡ ys) × (r ≡ s)
digits_end [] [] r s p q low high e = (refl, e)
digits_end [] (y ∷ ys) r s p q low high e = let f : first r ≡ y = ap first e in absurd (omega arith)
digits_end (x ∷ xs) [] r s p q low high e = let f : x ≡ first s = ap first e in absurd (omega arith)
digits_end (x ∷ xs) (y ∷ ys) r s p q low high e =
    let f : x ≡ y = cc in
    let t : xs ++ r ≡ ys ++ s = cc in
    let i = digits_end xs ys r s p.2 q.2 low high t in
    (cc (f, i.0), i.1)

pub number_fixed : (a b : ℕ) (r s : List ℕ) → a < 2 ^ 64 → b < 2 ^ 64 → first r < 48 → first s < 48 → decimal a ++ r ≡ decimal b ++ s → (a ≡ b) × (r ≡ s)
number_fixed a b r s lower higher low high e =
    let i = digits_end (decimal a) (decimal b) r s (decimal_digits a) (decimal_digits b) low high e in
    (decimal_injective a b lower higher i.0, i.1)

-- a number before a space, or before the end of its line

pub number_then : (a b : ℕ) (r s : List ℕ) → a < 2 ^ 64 → b < 2 ^ 64 → decimal a ++ (32 ∷ r) ≡ decimal b ++ (32 ∷ s) → (a ≡ b) × (r ≡ s)
number_then a b r s low high e =
    let i = number_fixed a b (32 ∷ r) (32 ∷ s) low high (omega arith) (omega arith) e in
    (i.0, append_cancel_left (32 ∷ []) r s i.1)

pub number_end : (a b : ℕ) (r s : List ℕ) → a < 2 ^ 64 → b < 2 ^ 64 → decimal a ++ (10 ∷ r) ≡ decimal b ++ (10 ∷ s) → (a ≡ b) × (r ≡ s)
number_end a b r s low high e =
    let i = number_fixed a b (10 ∷ r) (10 ∷ s) low high (omega arith) (omega arith) e in
    (i.0, append_cancel_left (10 ∷ []) r s i.1)

pub first_number : (n : ℕ) (r : List ℕ) → first (decimal n ++ (32 ∷ r)) < 97
first_number n r = by (decimal n) (decimal_digits n)
  where
    by : (xs : List ℕ) → Digits xs → first (xs ++ (32 ∷ r)) < 97
    by [] p = omega arith
    by (x ∷ xs) p = omega arith

all_head : {X : Type 0} (P : X → Type 0) (x : X) (xs : List X) → All P (x ∷ xs) → P x
all_head P x xs all = all 0 x (omega arith)

all_tail : {X : Type 0} (P : X → Type 0) (x : X) (xs : List X) → All P (x ∷ xs) → All P xs
all_tail P x xs all = λ k d lt. all (suc k) d (omega arith)

-- lines with their places, each of which begins as no text behind them does, fix their items

module _ {X : Type 0} (line : ℕ → X → List ℕ) (Held : X → Type 0) (Own Good : ℕ → Type 0)
    (begins : (k : ℕ) (x : X) (r : List ℕ) → Own (first (line k x ++ r)) × Good (first (line k x ++ r)))
    (fixed : (k : ℕ) (x y : X) (r s : List ℕ) → Held x → Held y → Good (first r) → Good (first s) → line k x ++ r ≡ line k y ++ s → (x ≡ y) × (r ≡ s)) where
  good_front : (k : ℕ) (xs : List X) (r : List ℕ) → Good (first r) → Good (first (numbered line k xs ++ r))
  good_front k [] r good = good
  good_front k (x ∷ xs) r good = subst (λ l. Good (first l)) (sym (append_assoc (line k x) (numbered line (k + 1) xs) r)) (begins k x (numbered line (k + 1) xs ++ r)).1

  no_line : (k : ℕ) (x : X) (xs : List X) (r s : List ℕ) → (Own (first s) → ⊥) → (line k x ++ numbered line (k + 1) xs) ++ r ≡ s → ⊥
  no_line k x xs r s other e = other (subst (λ l. Own (first l)) (sym (append_assoc (line k x) (numbered line (k + 1) xs) r) ∙ e) (begins k x (numbered line (k + 1) xs ++ r)).0)

  pub numbered_fixed : (k : ℕ) (xs ys : List X) (r s : List ℕ) → All Held xs → All Held ys → (Own (first r) → ⊥) → (Own (first s) → ⊥) → Good (first r) → Good (first s)
      → numbered line k xs ++ r ≡ numbered line k ys ++ s → (xs ≡ ys) × (r ≡ s)
  numbered_fixed k [] [] r s p q past end good fine e = (refl, e)
  numbered_fixed k [] (y ∷ ys) r s p q past end good fine e = absurd (no_line k y ys s r past (sym e))
  numbered_fixed k (x ∷ xs) [] r s p q past end good fine e = absurd (no_line k x xs r s end e)
  numbered_fixed k (x ∷ xs) (y ∷ ys) r s p q past end good fine e =
      let f = sym (append_assoc (line k x) (numbered line (k + 1) xs) r) ∙ (e ∙ append_assoc (line k y) (numbered line (k + 1) ys) s) in
      let i = fixed k x y (numbered line (k + 1) xs ++ r) (numbered line (k + 1) ys ++ s) (all_head Held x xs p) (all_head Held y ys q) (good_front (k + 1) xs r good) (good_front (k + 1) ys s fine) f in
      let j = numbered_fixed (k + 1) xs ys r s (all_tail Held x xs p) (all_tail Held y ys q) past end good fine i.1 in
      (cc (i.0, j.0), j.1)

-- a list of texts is one of lines that don't show their places
pub flat_numbered : {X : Type 0} (f : X → List ℕ) (k : ℕ) (xs : List X) → flat_map f xs ≡ numbered (λ _. f) k xs
flat_numbered f k [] = refl
flat_numbered f k (x ∷ xs) = ap (λ l. f x ++ l) (flat_numbered f (k + 1) xs)
