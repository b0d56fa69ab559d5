-- Words of an image, as they are read.
use Rattle.std.proofs.Common.{◌≡◌, inl, inr, ℕ, ◌+◌, ◌-◌, ◌*◌, ◌<◌, ◌≤◌, List, [], ◌∷◌, ◌++◌, length, get_or, sym, ◌∙◌, ap, arith, length-append}
use Rattle.std.proofs.lemmas.Bool.{cases_lt}
use Rattle.std.proofs.lemmas.List.{ext_get_or, get_or_append_left, get_or-append_right}
use Rattle.std.proofs.lemmas.List.FromFn.{get_or-map-range_with_len, length-map-range_with_len}
use Rattle.zms_dev.specs.Bytes.{byte}
use Rattle.uber_ring.specs.Numbers.{bytes_at, number_at}
use Rattle.uber_ring.proofs.Pieces.{number_same, number_in_piece}
use Rattle.meta_store.specs.Words.{words_at}

pub length-words_at : (image : List ℕ) (at n : ℕ) → length (words_at image at n) ≡ n
unfolding words_at
length-words_at image at n = length-map-range_with_len (λ k. number_at image (at + 8 * k) 8) 0 n

pub get-words_at : (image : List ℕ) (at n k : ℕ) → k < n → get_or (words_at image at n) k 0 ≡ number_at image (at + 8 * k) 8
unfolding words_at
get-words_at image at n k lt = get_or-map-range_with_len (λ k. number_at image (at + 8 * k) 8) 0 n k k 0 lt (omega arith)

-- a list of n words that are those from a place on
pub words_at_from : (image : List ℕ) (at n : ℕ) (words : List ℕ) → length words ≡ n → ((k : ℕ) → k < n → get_or words k 0 ≡ number_at image (at + 8 * k) 8) → words ≡ words_at image at n
words_at_from image at n words len each =
    ext_get_or 0 words (words_at image at n) (len ∙ sym (length-words_at image at n))
    (λ k lt. let below : k < n = omega arith in each k below ∙ sym (get-words_at image at n k below))

-- words depend on their own bytes alone
pub words_at_same : (b c : List ℕ) (at n : ℕ) → ((p : ℕ) → at ≤ p → p < at + 8 * n → byte c p ≡ byte b p) → words_at c at n ≡ words_at b at n
words_at_same b c at n same =
    words_at_from b at n (words_at c at n) (length-words_at c at n)
    (λ k lt. get-words_at c at n k lt ∙ number_same b c (at + 8 * k) 8 (λ p low high. same p (omega arith) (omega arith)))

-- the words that a piece of an image says
pub words_in_piece : (image : List ℕ) (at n size : ℕ) → 8 * n ≤ size → words_at (bytes_at image at size) 0 n ≡ words_at image at n
words_in_piece image at n size within =
    words_at_from image at n (words_at (bytes_at image at size) 0 n) (length-words_at (bytes_at image at size) 0 n)
    (λ k lt.
    let place : at + (0 + 8 * k) ≡ at + 8 * k = omega arith in
    get-words_at (bytes_at image at size) 0 n k lt ∙ number_in_piece image at size (0 + 8 * k) 8 (omega arith) ∙ ap (λ (p : ℕ). number_at image p 8) place)

-- one word more
pub words_at_more : (bytes words : List ℕ) (k word at : ℕ) → words ≡ words_at bytes 0 k → at ≡ 8 * k → word ≡ number_at bytes at 8 → words ++ word ∷ [] ≡ words_at bytes 0 (k + 1)
words_at_more bytes words k word at so_far place is =
    words_at_from bytes 0 (k + 1) (words ++ word ∷ [])
    (omega (arith, length-append words (word ∷ []), ap length so_far, length-words_at bytes 0 k))
    (λ j lt.
    let len : length words ≡ k = ap length so_far ∙ length-words_at bytes 0 k in
    elim (cases_lt j k) [
      | inl below ↦ get_or_append_left words (word ∷ []) 0 j (omega arith) ∙ ap (λ (w : List ℕ). get_or w j 0) so_far ∙ get-words_at bytes 0 k j below
      | inr last ↦
          let here : j ≡ k = omega arith in
          let first : j - k ≡ 0 = omega arith in
          get_or-append_right words (word ∷ []) k j 0 len (omega arith) ∙ ap (λ (i : ℕ). get_or (word ∷ []) i 0) first ∙ is
          ∙ ap (λ (p : ℕ). number_at bytes p 8) (let e : at ≡ 0 + 8 * j = omega arith in e)
    ])
