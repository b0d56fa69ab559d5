-- Writes side by side are one write.
use Rattle.std.proofs.Common.{◌≡◌, inl, inr, ℕ, ◌+◌, ◌-◌, ◌<◌, ◌≤◌, List, [], ◌++◌, length, Result, refl, sym, ◌∙◌, ap, arith, length-append}
use Rattle.std.proofs.lemmas.Bool.{cases_lt}
use Rattle.std.proofs.lemmas.List.{get_or_append_left, get_or-append_right}
use Rattle.zms_dev.specs.Bytes.{byte, Outside, Holds}
use Rattle.zms_dev.specs.Disk.{DiskState, SameKind, Elapses, Wrote}
use Rattle.zms_dev.specs.Runs.{Spares}
use Rattle.zms_dev.proofs.Moments.{OnlyNow}
use Rattle.zms_dev.proofs.Sparing.{spares_write, spares_less, spares_then}

pub holds_none : (a : List ℕ) (at : ℕ) → Holds a at [] a
holds_none a at = record {
  inside = λ k lt. absurd (omega arith);
  outside = λ p out. refl;
  no_shorter = omega arith;
  reaches = λ some. absurd (omega arith);
  no_longer = omega arith;
}

module _ (a b c : List ℕ) (at next : ℕ) (xs ys : List ℕ) (first : Holds a at xs b) (second : Holds b next ys c) (side : next ≡ at + length xs) where
  inside_both : (k : ℕ) → k < length (xs ++ ys) → byte c (at + k) ≡ byte (xs ++ ys) k
  inside_both k lt = elim (cases_lt k (length xs)) [
    | inl in_first ↦ second.outside (at + k) (λ le. absurd (omega arith)) ∙ first.inside k in_first ∙ sym (get_or_append_left xs ys 0 k in_first)
    | inr in_second ↦
        let place : at + k ≡ next + (k - length xs) = omega arith in
        let below : k - length xs < length ys = omega (arith, length-append xs ys) in
        ap (λ (p : ℕ). byte c p) place ∙ second.inside (k - length xs) below ∙ sym (get_or-append_right xs ys (length xs) k 0 refl in_second)
  ]

  pub holds_then : Holds a at (xs ++ ys) c
  holds_then = record {
    inside = inside_both;
    outside = λ p out.
        let len : length (xs ++ ys) ≡ length xs + length ys = length-append xs ys in
        second.outside p (λ le. omega (arith, len, out)) ∙ first.outside p (λ le. omega (arith, len, out));
    no_shorter = omega (arith, first.no_shorter, second.no_shorter);
    reaches = λ some. elim (cases_lt 0 (length ys)) [
      | inl more ↦ omega (arith, length-append xs ys, second.reaches more)
      | inr done ↦ omega (arith, length-append xs ys, first.reaches (omega (arith, length-append xs ys)), second.no_shorter)
    ];
    no_longer = omega (arith, length-append xs ys, first.no_longer, second.no_longer);
  }

-- one more write inside the `size` places from `at` on
pub spares_part : {T E : Type 0} (old mid new : DiskState) (at size next : ℕ) (bytes : List ℕ) (result : Result T E) → at ≤ next → next + length bytes ≤ at + size → Spares (Outside at size) old mid → OnlyNow mid → SameKind mid new → Elapses mid new → Wrote mid new next bytes result → Spares (Outside at size) old new
spares_part old mid new at size next bytes result low high run only kind time wrote =
    spares_then (Outside at size) old mid new run
    (spares_less (Outside next (length bytes)) mid new (Outside at size) (λ p out le. omega (arith, out))
    (spares_write mid new next bytes result run.tells only kind time wrote))
