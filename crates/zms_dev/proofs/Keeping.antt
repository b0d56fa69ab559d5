-- Kept places: what each image of a stop has in common.
use Rattle.std.proofs.Common.{◌≡◌, ◌⊎◌, inl, inr, ℕ, ◌<◌, List, length, refl, sym, ◌∙◌, subst, arith}
use Rattle.zms_dev.specs.Bytes.{byte, Torn, Same}
use Rattle.zms_dev.specs.Disk.{DiskState, Only}
use Rattle.zms_dev.specs.Runs.{LeavesOnly, Before, Spares, Untouched, Kept}
use Rattle.zms_dev.proofs.Moments.{weaker}

-- a tear that spares the kept places leaves them
pub same_torn : (kept spared : ℕ → Type 0) (a c d : List ℕ) → ((p : ℕ) → kept p → spared p) → Same kept a c → Torn spared c d → Same kept a d
same_torn kept spared a c d less was torn = record {
  lies = λ p k. omega (arith, was.lies p k, torn.no_shorter);
  same = λ p k. torn.same p (was.lies p k) (less p k) ∙ was.same p k;
}

pub same_itself : (kept : ℕ → Type 0) (a : List ℕ) → ((p : ℕ) → kept p → p < length a) → Same kept a a
same_itself kept a lies = record { lies = lies; same = λ p k. refl }

-- after a flush all that is read is kept
pub kept_only : (kept : ℕ → Type 0) (a : List ℕ) (disk : DiskState) → ((p : ℕ) → kept p → p < length a) → Only a disk.may_leave → Kept disk kept a
kept_only kept a disk lies only c now = subst (λ (d : List ℕ). Same kept a d) (sym (only c now)) (same_itself kept a lies)

pub kept_less : (kept fewer : ℕ → Type 0) (a : List ℕ) (disk : DiskState) → ((p : ℕ) → fewer p → kept p) → Kept disk kept a → Kept disk fewer a
kept_less kept fewer a disk less all c now =
    let was = all c now in
    record { lies = λ p few. was.lies p (less p few); same = λ p few. was.same p (less p few) }

pub kept_both : (kept more : ℕ → Type 0) (a : List ℕ) (disk : DiskState) → Kept disk kept a → Kept disk more a → Kept disk (λ p. kept p ⊎ more p) a
kept_both kept more a disk first second c now =
    let f = first c now in
    let s = second c now in
    record {
      lies = λ p k. elim k [ inl k ↦ f.lies p k | inr k ↦ s.lies p k ];
      same = λ p k. elim k [ inl k ↦ f.same p k | inr k ↦ s.same p k ];
    }

-- other bytes that read alike at the kept places
pub kept_as : (kept : ℕ → Type 0) (a b : List ℕ) (disk : DiskState) → ((p : ℕ) → kept p → byte b p ≡ byte a p) → Kept disk kept a → Kept disk kept b
kept_as kept a b disk alike all c now =
    let was = all c now in
    record { lies = was.lies; same = λ p k. was.same p k ∙ sym (alike p k) }

module _ (kept spared : ℕ → Type 0) (a : List ℕ) (old new : DiskState) (less : (p : ℕ) → kept p → spared p) (was : Kept old kept a) (run : Spares spared old new) where
  keeps : (c : List ℕ) → Before old spared c → Same kept a c
  keeps c from = same_torn kept spared a from.0 c less (was from.0 from.1) from.2

  -- a run that spares the kept places leaves them in each image since its start
  pub keeps_since : LeavesOnly old new (Same kept a)
  keeps_since = weaker old new (Before old spared) (Same kept a) keeps run.any_moment

  pub keeps_now : Kept new kept a
  keeps_now c now = keeps c (run.images c now)

module _ (kept : ℕ → Type 0) (a : List ℕ) (old new : DiskState) (was : Kept old kept a) (run : Untouched old new) where
  pub rests_since : LeavesOnly old new (Same kept a)
  rests_since = weaker old new old.may_leave (Same kept a) was run.any_moment

  pub rests_now : Kept new kept a
  rests_now c now = was c (run.images c now)
