-- One byte in the place of a range.
use Rattle.std.proofs.Common.{◌≡◌, ℕ, ◌+◌, ◌-◌, ◌<◌, ◌≤◌, List, ◌++◌, length, take, drop, replicate, ◌∙◌, ap, arith, length-append, length-take, length-drop}
use Rattle.std.proofs.lemmas.List.{get_or-replicate, get_or_append_left, get_or-append_right, length-replicate, length-take-le}
use Rattle.zms_dev.specs.Bytes.{byte}

pub byte_covered : (file : List ℕ) (a k fill : ℕ) (new : List ℕ) → new ≡ replicate (length (take k (drop a file))) fill → a + k ≤ length file → (p : ℕ) → a ≤ p → p < a + k → byte (take a file ++ (new ++ drop k (drop a file))) p ≡ fill
byte_covered file a k fill new are within p low inside =
    let count : length (take k (drop a file)) ≡ k = omega (arith, length-take k (drop a file), length-drop a file) in
    let len : length new ≡ k = ap length are ∙ length-replicate (length (take k (drop a file))) fill ∙ count in
    let front : length (take a file) ≡ a = length-take-le a file (omega arith) in
    get_or-append_right (take a file) (new ++ drop k (drop a file)) a p 0 front low
    ∙ get_or_append_left new (drop k (drop a file)) 0 (p - a) (omega arith)
    ∙ ap (λ (z : List ℕ). byte z (p - a)) are ∙ get_or-replicate (length (take k (drop a file))) (p - a) fill 0 (omega arith)

pub length_covered : (file : List ℕ) (a k fill : ℕ) (new : List ℕ) → new ≡ replicate (length (take k (drop a file))) fill → a + k ≤ length file → length (take a file ++ (new ++ drop k (drop a file))) ≡ length file
length_covered file a k fill new are within =
    omega (
      arith,
      length-append (take a file) (new ++ drop k (drop a file)),
      length-append new (drop k (drop a file)),
      ap length are,
      length-replicate (length (take k (drop a file))) fill,
      length-take k (drop a file),
      length-take a file,
      length-drop k (drop a file),
      length-drop a file,
    )
