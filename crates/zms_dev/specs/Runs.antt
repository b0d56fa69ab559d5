-- Runs of calls on a device, and what a stop at any moment of one may leave.
use Rattle.std.specs.Prelude.{◌≡◌, ◌⊎◌, ℕ, ◌≤◌, List}
use Rattle.zms_dev.specs.Bytes.{Torn, Same}
use Rattle.zms_dev.specs.Disk.{DiskState, Tells, bytes_of}

-- a stop at any moment of the run leaves an image with P
pub record LeavesOnly (old new : DiskState) (P : List ℕ → Type 0) : Type 0 where
  pub later : old.moment ≤ new.moment
  pub each : (c : List ℕ) → new.left_since old.moment c → P c
  -- the same for a run that began earlier
  pub before : (t : ℕ) (c : List ℕ) → t ≤ old.moment → new.left_since t c → old.left_since t c ⊎ P c

-- an image from before the run, torn outside the spared places
abbrev pub Before : DiskState → (ℕ → Type 0) → List ℕ → Type 0
Before disk spared c = (d : List ℕ) × disk.may_leave d × Torn spared d c

-- the run touched no spared place: neither what is read, nor what a stop leaves
pub record Spares (spared : ℕ → Type 0) (old new : DiskState) : Type 0 where
  pub tells : Tells new
  pub contents : Torn spared (bytes_of old) (bytes_of new)
  pub images : (c : List ℕ) → new.may_leave c → Before old spared c
  pub any_moment : LeavesOnly old new (Before old spared)

-- the run only read: the bytes stay, nothing is flushed, and a stop at any moment of it leaves what one before it might
pub record Untouched (old new : DiskState) : Type 0 where
  pub tells : Tells new
  pub contents : bytes_of new ≡ bytes_of old
  pub images : (c : List ℕ) → new.may_leave c → old.may_leave c
  pub any_moment : LeavesOnly old new old.may_leave
  pub flushes : new.flushes ≡ old.flushes

-- each image that a stop now may leave reads as `a` at the kept places
abbrev pub Kept : DiskState → (ℕ → Type 0) → List ℕ → Type 0
Kept disk kept a = (c : List ℕ) → disk.may_leave c → Same kept a c
