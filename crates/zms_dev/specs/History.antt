-- The calls that a device in memory has met, and the images that a stop may leave after them.
use Rattle.std.specs.Prelude.{◌≡◌, ℕ, ◌+◌, ◌<◌, ◌≤◌, List, [], ◌∷◌, length, take, Some}
use Rattle.zms_dev.specs.Bytes.{byte, Outside, overwritten}
use Rattle.zms_dev.specs.Disk.{DiskState}

-- what a call did to the device
pub data Step : Type 0 where
  -- a write that was done: its place and its bytes
  wrote : ℕ → List ℕ → Step
  -- a write that failed: its place and its length
  lost : ℕ → ℕ → Step
  flushed : Step
  -- nothing: a size, a read, or a flush that failed
  looked : Step

-- between two calls: what is read, what was read at the last flush, and the ranges written since
pub record Stage : Type 0 where
  pub seen : List ℕ
  pub settled : List ℕ
  pub ranges : List (ℕ × ℕ)

abbrev pub start : List ℕ → Stage
start first = record { seen = first; settled = first; ranges = [] }

abbrev pub next : Stage → Step → Stage
next s (wrote at bytes) = record { seen = overwritten s.seen at bytes; settled = s.settled; ranges = (at, length bytes) ∷ s.ranges }
next s (lost at len) = record { seen = s.seen; settled = s.settled; ranges = (at, len) ∷ s.ranges }
next s flushed = record { seen = s.seen; settled = s.seen; ranges = [] }
next s looked = s

abbrev pub after : Stage → List Step → Stage
after s [] = s
after s (step ∷ steps) = after (next s step) steps

-- the place lies in none of the ranges
abbrev pub Free : List (ℕ × ℕ) → ℕ → Type 0
Free [] p = Unit {0}
Free (range ∷ ranges) p = Outside range.0 range.1 p × Free ranges p

-- a stop may leave this: all that was settled, but anything in the ranges written since and past the settled end
pub record IsImage (stage : Stage) (image : List ℕ) : Type 0 where
  pub kept : (p : ℕ) → p < length stage.settled → Free stage.ranges p → byte image p ≡ byte stage.settled p
  pub no_shorter : length stage.settled ≤ length image
  pub no_longer : stage.ranges ≡ [] → length image ≤ length stage.settled

-- a stop may have left this after so many of the steps, at least t
pub record WasImage (first : List ℕ) (steps : List Step) (t : ℕ) (image : List ℕ) : Type 0 where
  pub at : ℕ
  pub since : t ≤ at
  pub until : at ≤ length steps
  pub is : IsImage (after (start first) (take at steps)) image

-- the moments of the flushes, the first step ending at moment t + 1
abbrev pub flush_moments : ℕ → List Step → List ℕ
flush_moments t [] = []
flush_moments t (wrote at bytes ∷ steps) = flush_moments (t + 1) steps
flush_moments t (lost at len ∷ steps) = flush_moments (t + 1) steps
flush_moments t (flushed ∷ steps) = (t + 1) ∷ flush_moments (t + 1) steps
flush_moments t (looked ∷ steps) = flush_moments (t + 1) steps

-- an honest device that tells its bytes, which were these at first, after the steps
abbrev pub history : List ℕ → List Step → DiskState
history first steps = record {
  honest = Unit {0};
  contents = Some (after (start first) steps).seen;
  may_leave = IsImage (after (start first) steps);
  moment = length steps;
  left_since = WasImage first steps;
  flushes = flush_moments 0 steps;
}
