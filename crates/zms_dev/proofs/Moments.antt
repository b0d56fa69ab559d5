-- Moments go on from call to call.
use Rattle.std.proofs.Common.{ℕ, List, inl, inr, arith}
use Rattle.zms_dev.specs.Disk.{DiskState, Elapses}
use Rattle.zms_dev.specs.Runs.{LeavesOnly}

-- Since this moment there is no other: what the law `only_now` of a device gives.
abbrev pub OnlyNow : DiskState → Type 0
OnlyNow disk = (c : List ℕ) → disk.left_since disk.moment c → disk.may_leave c

pub started : (disk : DiskState) (P : List ℕ → Type 0) → ((c : List ℕ) → disk.left_since disk.moment c → P c) → LeavesOnly disk disk P
started disk P here = record { later = omega arith; each = here; before = λ t c le left. inl left }

-- one more call
pub goes_on : (old mid new : DiskState) (P : List ℕ → Type 0) → LeavesOnly old mid P → Elapses mid new → ((c : List ℕ) → new.may_leave c → P c) → LeavesOnly old new P
goes_on old mid new P run time here = record {
  later = omega (arith, run.later, time.later);
  each = λ c left. elim (time.nothing_else old.moment c run.later left) [ inl was ↦ run.each c was | inr now ↦ here c now ];
  before = λ t c le left. elim (time.nothing_else t c (omega (arith, run.later)) left) [ inl was ↦ run.before t c le was | inr now ↦ inr (here c now) ];
}

-- one call, at whose start and end a stop leaves images with P
pub called : (old new : DiskState) (P : List ℕ → Type 0) → OnlyNow old → Elapses old new → ((c : List ℕ) → old.may_leave c → P c) → ((c : List ℕ) → new.may_leave c → P c) → LeavesOnly old new P
called old new P only time first last = goes_on old old new P (started old P (λ c left. first c (only c left))) time last

-- one run after another
pub joined : (old mid new : DiskState) (P : List ℕ → Type 0) → LeavesOnly old mid P → LeavesOnly mid new P → LeavesOnly old new P
joined old mid new P first second = record {
  later = omega (arith, first.later, second.later);
  each = λ c left. elim (second.before old.moment c first.later left) [ inl was ↦ first.each c was | inr now ↦ now ];
  before = λ t c le left. elim (second.before t c (omega (arith, first.later)) left) [ inl was ↦ first.before t c le was | inr now ↦ inr now ];
}

pub weaker : (old new : DiskState) (P Q : List ℕ → Type 0) → ((c : List ℕ) → P c → Q c) → LeavesOnly old new P → LeavesOnly old new Q
weaker old new P Q less run = record {
  later = run.later;
  each = λ c left. less c (run.each c left);
  before = λ t c le left. elim (run.before t c le left) [ inl was ↦ inl was | inr now ↦ inr (less c now) ];
}
