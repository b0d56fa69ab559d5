-- What a stop leaves of a pool device in memory.
use Rattle.std.specs.Prelude.{◌≡◌, ℕ, ◌<◌, Bool, false, List, [], length, take}
use Rattle.zms_dev.specs.Bytes.{byte}
use Rattle.zms_dev.specs.Ranges.{InSome}
use Rattle.zms_dev.specs.History.{Stage, start, after}
use Rattle.zms_dev.specs.MemoryDisk.{DiskForm, steps_of}
use Rattle.zms_dev.specs.declared.memory.calls.Call.{Call}
use Rattle.zms_dev.specs.declared.memory.calls.Call.TheVariants.{Size, Read, Write, Flush}
use Rattle.zms_dev.specs.declared.memory.calls.CallRecord.{CallRecord}
use Rattle.zms_dev.specs.declared.memory.stop.Unflushed.{Unflushed}
use Rattle.zms_dev.specs.declared.memory.stop.Unflushed.TheVariants.{Old, New, Zeros, Ones}

-- this byte stands at each place of the ranges, and the image goes as far
abbrev pub Filled : List (ℕ × ℕ) → ℕ → List ℕ → Type 0
Filled ranges fill image = (p : ℕ) → InSome ranges p → (p < length image) × (byte image p ≡ fill)

-- all that is read has been flushed
pub record IsAtRest (s : Stage) : Type 0 where
  pub settled : s.settled ≡ s.seen
  pub nothing_since : s.ranges ≡ []

abbrev pub flushed_by : Call → Bool → Bool
flushed_by Flush went_well = went_well
flushed_by Size went_well = false
flushed_by (Read at len) went_well = false
flushed_by (Write at len from) went_well = false

-- the call was a flush that succeeded
abbrev pub has_flushed : CallRecord → Bool
has_flushed c = flushed_by c.call c.went_well

-- the device after so many of its calls
abbrev pub stage_after : DiskForm → ℕ → Stage
stage_after d calls = after (start d.first) (take calls (steps_of d))

-- what the stop makes of the ranges that were not flushed
abbrev pub LeavesBytes : Unflushed → Stage → List ℕ → Type 0
LeavesBytes Old s image = image ≡ s.settled
LeavesBytes New s image = image ≡ s.seen
LeavesBytes Zeros s image = Filled s.ranges 0 image
LeavesBytes Ones s image = Filled s.ranges 255 image
