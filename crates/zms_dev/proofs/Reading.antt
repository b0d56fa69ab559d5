-- Parts of an image, as they are read.
use Rattle.std.proofs.Common.{◌≡◌, inl, inr, ℕ, ◌+◌, ◌-◌, ◌<◌, ◌≤◌, List, ◌++◌, length, take, drop, replicate, refl, sym, ◌∙◌, ap, arith, length-append, length-take, length-drop}
use Rattle.std.proofs.lemmas.Bool.{cases_lt}
use Rattle.std.proofs.lemmas.List.{ext_get_or, get_or-take, get_or-drop, get_or-replicate, get_or_past, get_or_append_left, get_or-append_right, length-replicate, length-take-le}
use Rattle.std.proofs.lemmas.List.FromFn.{get_or-map-range_with_len, length-map-range_with_len}
use Rattle.zms_dev.specs.Bytes.{byte, part, Holds, Same, Gives}

pub length-part : (image : List ℕ) (at n : ℕ) → length (part image at n) ≡ n
length-part image at n = length-map-range_with_len (λ p. byte image p) at n

pub byte-part : (image : List ℕ) (at n k : ℕ) → k < n → byte (part image at n) k ≡ byte image (at + k)
byte-part image at n k lt = get_or-map-range_with_len (λ p. byte image p) at n k (at + k) 0 lt refl

-- a list of n bytes that are those from `at` on is the part there
pub part_from : (image : List ℕ) (at n : ℕ) (bytes : List ℕ) → length bytes ≡ n → ((k : ℕ) → k < n → byte bytes k ≡ byte image (at + k)) → bytes ≡ part image at n
part_from image at n bytes len each =
    ext_get_or 0 bytes (part image at n) (len ∙ sym (length-part image at n))
    (λ k lt. let below : k < n = omega arith in each k below ∙ sym (byte-part image at n k below))

-- a part depends on its own places alone
pub part_same : (b c : List ℕ) (at n : ℕ) → ((p : ℕ) → at ≤ p → p < at + n → byte c p ≡ byte b p) → part c at n ≡ part b at n
part_same b c at n same =
    part_from b at n (part c at n) (length-part c at n)
    (λ k lt. byte-part c at n k lt ∙ same (at + k) (omega arith) (omega arith))

pub part_kept : (kept : ℕ → Type 0) (a c : List ℕ) (at n : ℕ) → Same kept a c → ((p : ℕ) → at ≤ p → p < at + n → kept p) → part c at n ≡ part a at n
part_kept kept a c at n was all = part_same a c at n (λ p low high. was.same p (all p low high))

-- a part of what was written
pub part_held : (b c : List ℕ) (at : ℕ) (bytes : List ℕ) → Holds b at bytes c → (p i n : ℕ) → p ≡ at + i → i + n ≤ length bytes → part c p n ≡ take n (drop i bytes)
part_held b c at bytes holds p i n place inside =
    sym (part_from c p n (take n (drop i bytes)) (omega (arith, length-take n (drop i bytes), length-drop i bytes))
    (λ k lt.
    let here : at + (i + k) ≡ p + k = omega arith in
    get_or-take n (drop i bytes) k 0 lt ∙ get_or-drop i bytes k 0 ∙ sym (holds.inside (i + k) (omega arith)) ∙ ap (λ (q : ℕ). byte c q) here))

pub part_whole : (b c : List ℕ) (at : ℕ) (bytes : List ℕ) → Holds b at bytes c → (n : ℕ) → n ≡ length bytes → part c at n ≡ bytes
part_whole b c at bytes holds n len =
    sym (part_from c at n bytes (sym len) (λ k lt. sym (holds.inside k (omega arith))))

-- what a read gave, with zeros in the rest of the buffer
pub part_read : (image : List ℕ) (at n : ℕ) (buf : List ℕ) → Gives image at n buf → (k : ℕ) (zeros : List ℕ) → k ≡ length buf - n → zeros ≡ replicate (length (take k (drop n buf))) 0 → take n buf ++ (zeros ++ drop k (drop n buf)) ≡ part image at (length buf)
part_read image at n buf gives k zeros rest are =
    let within : n ≤ length buf = omega (arith, gives.count) in
    let count : length (take k (drop n buf)) ≡ k = omega (arith, length-take k (drop n buf), length-drop n buf) in
    let len : length zeros ≡ k = ap length are ∙ length-replicate (length (take k (drop n buf))) 0 ∙ count in
    let front : length (take n buf) ≡ n = length-take-le n buf within in
    part_from image at (length buf) (take n buf ++ (zeros ++ drop k (drop n buf)))
    (omega (arith, length-append (take n buf) (zeros ++ drop k (drop n buf)), length-append zeros (drop k (drop n buf)), length-drop k (drop n buf), length-drop n buf))
    (λ j lt. elim (cases_lt j n) [
      | inl in_front ↦
          get_or_append_left (take n buf) (zeros ++ drop k (drop n buf)) 0 j (omega arith) ∙ get_or-take n buf j 0 in_front ∙ gives.front j in_front
      | inr behind ↦
          let zero_at : j - n < length zeros = omega arith in
          let zero : byte zeros (j - n) ≡ 0 = ap (λ (z : List ℕ). byte z (j - n)) are ∙ get_or-replicate (length (take k (drop n buf))) (j - n) 0 0 (omega arith) in
          get_or-append_right (take n buf) (zeros ++ drop k (drop n buf)) n j 0 front behind
          ∙ get_or_append_left zeros (drop k (drop n buf)) 0 (j - n) zero_at
          ∙ zero ∙ sym (get_or_past image (at + j) 0 (omega (arith, gives.count)))
    ])
