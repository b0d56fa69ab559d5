-- Kept places as byte ranges: a write outside them leaves them.
use Rattle.std.proofs.Common.{◌⊎◌, inl, inr, ℕ, ◌+◌, ◌≤◌, List, [], ◌∷◌, ◌++◌, length, Result, arith}
use Rattle.zms_dev.specs.Bytes.{Outside}
use Rattle.zms_dev.specs.Ranges.{InSome, AllApart}
use Rattle.zms_dev.specs.Disk.{DiskState, SameKind, Elapses, Wrote}
use Rattle.zms_dev.specs.Runs.{Spares}
use Rattle.zms_dev.proofs.Moments.{OnlyNow}
use Rattle.zms_dev.proofs.Sparing.{spares_write, spares_less, spares_then}

pub in_some_left : (xs ys : List (ℕ × ℕ)) (p : ℕ) → InSome xs p → InSome (xs ++ ys) p
in_some_left (x ∷ xs) ys p (inl here) = inl here
in_some_left (x ∷ xs) ys p (inr later) = inr (in_some_left xs ys p later)
in_some_left [] ys p none = absurd none

pub in_some_right : (xs ys : List (ℕ × ℕ)) (p : ℕ) → InSome ys p → InSome (xs ++ ys) p
in_some_right [] ys p later = later
in_some_right (x ∷ xs) ys p later = inr (in_some_right xs ys p later)

pub in_some_either : (xs ys : List (ℕ × ℕ)) (p : ℕ) → InSome (xs ++ ys) p → InSome xs p ⊎ InSome ys p
in_some_either [] ys p later = inr later
in_some_either (x ∷ xs) ys p (inl here) = inl (inl here)
in_some_either (x ∷ xs) ys p (inr later) = elim (in_some_either xs ys p later) [ inl left ↦ inl (inr left) | inr right ↦ inr right ]

pub all_apart-append : (xs ys : List (ℕ × ℕ)) (at n : ℕ) → AllApart xs at n → AllApart ys at n → AllApart (xs ++ ys) at n
all_apart-append [] ys at n none apart = apart
all_apart-append (x ∷ xs) ys at n first apart = (first.0, all_apart-append xs ys at n first.1 apart)

-- a shorter range inside is apart too
pub all_apart_inside : (ranges : List (ℕ × ℕ)) (at n from len : ℕ) → at ≤ from → from + len ≤ at + n → AllApart ranges at n → AllApart ranges from len
all_apart_inside [] at n from len low high apart = tt
all_apart_inside (range ∷ ranges) at n from len low high apart =
    (elim apart.0 [ inl below ↦ inl (omega arith) | inr above ↦ inr (omega arith) ], all_apart_inside ranges at n from len low high apart.1)

pub apart_outside : (ranges : List (ℕ × ℕ)) (at n p : ℕ) → AllApart ranges at n → InSome ranges p → Outside at n p
apart_outside [] at n p apart none = absurd none
apart_outside (range ∷ ranges) at n p apart (inl here) = elim apart.0 [ inl below ↦ λ le. omega (arith, here.0, here.1) | inr above ↦ λ le. omega (arith, here.0, here.1) ]
apart_outside (range ∷ ranges) at n p apart (inr later) = apart_outside ranges at n p apart.1 later

-- one more write, outside the ranges
pub spares_apart : {T E : Type 0} (ranges : List (ℕ × ℕ)) (old mid new : DiskState) (at : ℕ) (bytes : List ℕ) (result : Result T E) → AllApart ranges at (length bytes) → Spares (InSome ranges) old mid → OnlyNow mid → SameKind mid new → Elapses mid new → Wrote mid new at bytes result → Spares (InSome ranges) old new
spares_apart ranges old mid new at bytes result apart run only kind time wrote =
    spares_then (InSome ranges) old mid new run
    (spares_less (Outside at (length bytes)) mid new (InSome ranges) (λ p here. apart_outside ranges at (length bytes) p apart here)
    (spares_write mid new at bytes result run.tells only kind time wrote))

-- one more run of writes to the n places from `at` on, all of them outside the ranges
pub spares_run : (ranges : List (ℕ × ℕ)) (old mid new : DiskState) (at n : ℕ) → AllApart ranges at n → Spares (InSome ranges) old mid → Spares (Outside at n) mid new → Spares (InSome ranges) old new
spares_run ranges old mid new at n apart first second =
    spares_then (InSome ranges) old mid new first
    (spares_less (Outside at n) mid new (InSome ranges) (λ p here. apart_outside ranges at n p apart here) second)
