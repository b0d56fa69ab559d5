-- Pieces of bytes, and the numbers in them.
use Rattle.std.proofs.Common.{◌≡◌, inl, inr, ℕ, zero, suc, ◌+◌, ◌-◌, ◌*◌, ◌^◌, ◌<◌, ◌≤◌, List, [], ◌++◌, length, take, drop, refl, sym, ◌∙◌, ap, subst, arith, length-append, length-take, length-drop}
use Rattle.std.proofs.lemmas.Bool.{cases_lt}
use Rattle.std.proofs.lemmas.List.{get_or-take, get_or-drop, get_or_append_left, get_or-append_right, length-take-le, append-nil, drop_all}
use borrow.Rule.Slice.PartMut.{put_mid}
use Rattle.byteorder.specs.Endian.{little_from, little_bytes}
use Rattle.byteorder.specs.Numbers.{little_number-reads_back, length-bytes_low_first}
use Rattle.zms_dev.specs.Bytes.{byte, part, Outside}
use Rattle.zms_dev.proofs.Reading.{length-part, byte-part, part_from, part_same}
use Rattle.uber_ring.specs.Numbers.{bytes_at, number_at, Puts, PutsNumber}

pub length-bytes_at : (bytes : List ℕ) (at n : ℕ) → length (bytes_at bytes at n) ≡ n
unfolding bytes_at
length-bytes_at bytes at n = length-part bytes at n

pub byte-bytes_at : (bytes : List ℕ) (at n k : ℕ) → k < n → byte (bytes_at bytes at n) k ≡ byte bytes (at + k)
unfolding bytes_at
byte-bytes_at bytes at n k lt = byte-part bytes at n k lt

pub bytes_at_is_part : (bytes : List ℕ) (at n : ℕ) → bytes_at bytes at n ≡ part bytes at n
unfolding bytes_at
bytes_at_is_part bytes at n = refl

-- a list of n bytes that are those from `at` on is the piece there
pub bytes_at_from : (bytes : List ℕ) (at n : ℕ) (piece : List ℕ) → length piece ≡ n → ((k : ℕ) → k < n → byte piece k ≡ byte bytes (at + k)) → piece ≡ bytes_at bytes at n
unfolding bytes_at
bytes_at_from bytes at n piece len each = part_from bytes at n piece len each

-- a piece depends on its own places alone
pub bytes_at_same : (b c : List ℕ) (at n : ℕ) → ((p : ℕ) → at ≤ p → p < at + n → byte c p ≡ byte b p) → bytes_at c at n ≡ bytes_at b at n
unfolding bytes_at
bytes_at_same b c at n same = part_same b c at n same

-- a piece of a piece
pub bytes_at_inner : (bytes : List ℕ) (at n i m : ℕ) → i + m ≤ n → bytes_at (bytes_at bytes at n) i m ≡ bytes_at bytes (at + i) m
bytes_at_inner bytes at n i m within =
    bytes_at_from bytes (at + i) m (bytes_at (bytes_at bytes at n) i m) (length-bytes_at (bytes_at bytes at n) i m)
    (λ k lt.
    let place : at + (i + k) ≡ at + i + k = omega arith in
    byte-bytes_at (bytes_at bytes at n) i m k lt ∙ byte-bytes_at bytes at n (i + k) (omega arith) ∙ ap (λ (p : ℕ). byte bytes p) place)

-- a slice of the list
pub slice_is : (bytes : List ℕ) (at n : ℕ) → at + n ≤ length bytes → take n (drop at bytes) ≡ bytes_at bytes at n
slice_is bytes at n within =
    bytes_at_from bytes at n (take n (drop at bytes)) (omega (arith, length-take n (drop at bytes), length-drop at bytes))
    (λ k lt. get_or-take n (drop at bytes) k 0 lt ∙ get_or-drop at bytes k 0)

little-same : (b c : List ℕ) (at n : ℕ) → ((p : ℕ) → at ≤ p → p < at + n → byte c p ≡ byte b p) → little_from at n c ≡ little_from at n b
little-same b c at zero same = refl
little-same b c at (suc n) same =
    let first : byte c at ≡ byte b at = same at (omega arith) (omega arith) in
    let rest : little_from (suc at) n c ≡ little_from (suc at) n b = little-same b c (suc at) n (λ p low high. same p (omega arith) (omega arith)) in
    (λ i. first i + 256 * rest i)

-- a number depends on its own bytes alone
pub number_same : (b c : List ℕ) (at n : ℕ) → ((p : ℕ) → at ≤ p → p < at + n → byte c p ≡ byte b p) → number_at c at n ≡ number_at b at n
unfolding number_at
number_same b c at n same = little-same b c at n same

little-moved : (b c : List ℕ) (i at n : ℕ) → ((k : ℕ) → k < n → byte c (i + k) ≡ byte b (at + k)) → little_from i n c ≡ little_from at n b
little-moved b c i at zero same = refl
little-moved b c i at (suc n) same =
    let here : byte c i ≡ byte b at = ap (λ (p : ℕ). byte c p) (let e : i ≡ i + 0 = omega arith in e) ∙ same 0 (omega arith) ∙ ap (λ (p : ℕ). byte b p) (let e : at + 0 ≡ at = omega arith in e) in
    let next : (k : ℕ) → k < n → byte c (suc i + k) ≡ byte b (suc at + k) = λ k lt.
    ap (λ (p : ℕ). byte c p) (let e : suc i + k ≡ i + suc k = omega arith in e) ∙ same (suc k) (omega arith) ∙ ap (λ (p : ℕ). byte b p) (let e : at + suc k ≡ suc at + k = omega arith in e) in
    let rest : little_from (suc i) n c ≡ little_from (suc at) n b = little-moved b c (suc i) (suc at) n next in
    (λ j. here j + 256 * rest j)

-- the same bytes elsewhere are the same number
pub number_moved : (b c : List ℕ) (i at n : ℕ) → ((k : ℕ) → k < n → byte c (i + k) ≡ byte b (at + k)) → number_at c i n ≡ number_at b at n
unfolding number_at
number_moved b c i at n same = little-moved b c i at n same

pub number_in_slice : (bytes : List ℕ) (at n m : ℕ) → n ≤ m → little_from 0 n (take m (drop at bytes)) ≡ number_at bytes at n
unfolding number_at
number_in_slice bytes at n m within =
    little-moved bytes (take m (drop at bytes)) 0 at n
    (λ k lt. ap (λ (p : ℕ). byte (take m (drop at bytes)) p) (let e : 0 + k ≡ k = omega arith in e) ∙ get_or-take m (drop at bytes) k 0 (omega arith) ∙ get_or-drop at bytes k 0)

pub number_in_piece : (bytes : List ℕ) (at n i m : ℕ) → i + m ≤ n → number_at (bytes_at bytes at n) i m ≡ number_at bytes (at + i) m
number_in_piece bytes at n i m within =
    number_moved bytes (bytes_at bytes at n) i (at + i) m
    (λ k lt. byte-bytes_at bytes at n (i + k) (omega arith) ∙ ap (λ (p : ℕ). byte bytes p) (let e : at + (i + k) ≡ at + i + k = omega arith in e))

-- a write of a part
pub puts_mid : (a k : ℕ) (xs ys : List ℕ) → length ys ≡ k → a + k ≤ length xs → Puts xs (put_mid a k xs ys) a ys
puts_mid a k xs ys len within =
    let front : length (take a xs) ≡ a = length-take-le a xs (omega arith) in
    let rest = drop k (drop a xs) in
    record {
      len = omega (arith, length-append (take a xs) (ys ++ rest), length-append ys rest, length-drop k (drop a xs), length-drop a xs, front, len);
      inside = λ j lt.
          get_or-append_right (take a xs) (ys ++ rest) a (a + j) 0 front (omega arith)
          ∙ ap (λ (p : ℕ). byte (ys ++ rest) p) (let e : a + j - a ≡ j = omega arith in e) ∙ get_or_append_left ys rest 0 j lt;
      outside = λ p out. elim (cases_lt p a) [
        | inl below ↦ get_or_append_left (take a xs) (ys ++ rest) 0 p (omega (arith, front)) ∙ get_or-take a xs p 0 below
        | inr behind ↦
            let past : a + k ≤ p = omega (arith, out behind) in
            get_or-append_right (take a xs) (ys ++ rest) a p 0 front behind
            ∙ get_or-append_right ys rest k (p - a) 0 len (omega arith)
            ∙ get_or-drop k (drop a xs) (p - a - k) 0
            ∙ get_or-drop a xs (k + (p - a - k)) 0
            ∙ ap (λ (q : ℕ). byte xs q) (let e : a + (k + (p - a - k)) ≡ p = omega arith in e)
      ];
    }

-- what was put is there
pub put_is : (old new : List ℕ) (at : ℕ) (piece : List ℕ) (n : ℕ) → Puts old new at piece → length piece ≡ n → bytes_at new at n ≡ piece
put_is old new at piece n puts len = sym (bytes_at_from new at n piece len (λ k lt. sym (puts.inside k (omega arith))))

number_put : (old new : List ℕ) (at n x : ℕ) → Puts old new at (little_bytes n x) → x < 256 ^ n → number_at new at n ≡ x
unfolding number_at
number_put old new at n x puts fits =
    little-moved (little_bytes n x) new at 0 n
    (λ k lt. puts.inside k (omega (arith, length-bytes_low_first 0 n x)) ∙ ap (λ (p : ℕ). byte (little_bytes n x) p) (let e : k ≡ 0 + k = omega arith in e))
    ∙ ap (λ (b : List ℕ). little_from 0 n b) (sym (append-nil (little_bytes n x))) ∙ little_number-reads_back n x [] fits

-- a write of a number to a part of its length
pub puts_number : (bytes buf : List ℕ) (at n k x : ℕ) → k ≡ n → buf ≡ little_bytes n x ++ drop n (take k (drop at bytes)) → at + n ≤ length bytes → x < 256 ^ n → PutsNumber bytes (put_mid at k bytes buf) at n x
puts_number bytes buf at n k x same is within fits =
    let none : drop n (take k (drop at bytes)) ≡ [] = drop_all n (take k (drop at bytes)) (omega (arith, length-take k (drop at bytes))) in
    let all : buf ≡ little_bytes n x = is ∙ ap (λ (r : List ℕ). little_bytes n x ++ r) none ∙ append-nil (little_bytes n x) in
    let len : length buf ≡ n = ap length all ∙ length-bytes_low_first 0 n x in
    let puts : Puts bytes (put_mid at k bytes buf) at buf = puts_mid at k bytes buf (omega arith) (omega arith) in
    record {
      len = puts.len;
      is = number_put bytes (put_mid at k bytes buf) at n x (subst (λ (b : List ℕ). Puts bytes (put_mid at k bytes buf) at b) all puts) fits;
      outside = λ p out. puts.outside p (λ le. omega (arith, out));
    }

-- what lies elsewhere stays
pub put_keeps_number : (old new : List ℕ) (at : ℕ) (piece : List ℕ) (i n : ℕ) → Puts old new at piece → ((p : ℕ) → i ≤ p → p < i + n → Outside at (length piece) p) → number_at new i n ≡ number_at old i n
put_keeps_number old new at piece i n puts apart = number_same old new i n (λ p low high. puts.outside p (apart p low high))

pub put_keeps_piece : (old new : List ℕ) (at : ℕ) (piece : List ℕ) (i n : ℕ) → Puts old new at piece → ((p : ℕ) → i ≤ p → p < i + n → Outside at (length piece) p) → bytes_at new i n ≡ bytes_at old i n
put_keeps_piece old new at piece i n puts apart = bytes_at_same old new i n (λ p low high. puts.outside p (apart p low high))

pub number_keeps_number : (old new : List ℕ) (at m x i n : ℕ) → PutsNumber old new at m x → ((p : ℕ) → i ≤ p → p < i + n → Outside at m p) → number_at new i n ≡ number_at old i n
number_keeps_number old new at m x i n puts apart = number_same old new i n (λ p low high. puts.outside p (apart p low high))

pub number_keeps_piece : (old new : List ℕ) (at m x i n : ℕ) → PutsNumber old new at m x → ((p : ℕ) → i ≤ p → p < i + n → Outside at m p) → bytes_at new i n ≡ bytes_at old i n
number_keeps_piece old new at m x i n puts apart = bytes_at_same old new i n (λ p low high. puts.outside p (apart p low high))
