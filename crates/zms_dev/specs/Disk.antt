-- The pool device: its bytes, and the images that a stop may leave.
use Rattle.std.specs.Prelude.{◌≡◌, ◌⊎◌, ◌↔◌, ℕ, ◌≤◌, List, [], ◌∷◌, ◌++◌, length, Option, None, IsSome, is_some, unwrap_or, Result, OnOk, OnErr}
use Rattle.zms_dev.specs.Bytes.{Outside, Holds, Torn}

-- what a device means at a moment
pub record DiskState : Type 1 where
  -- it keeps the rules
  pub honest : Type 0
  -- its bytes, where it tells them
  pub contents : Option (List ℕ)
  -- an image that a stop now may leave
  pub may_leave : List ℕ → Type 0
  -- the moment, a number that never falls
  pub moment : ℕ
  -- an image that a stop at some moment from this one on may have left
  pub left_since : ℕ → List ℕ → Type 0
  -- the moments at which its flushes succeeded
  pub flushes : List ℕ

-- an honest device that tells its bytes: the premise of all that is said of them
pub record Tells (disk : DiskState) : Type 0 where
  pub honest : disk.honest
  pub told : IsSome disk.contents

-- the bytes that it tells
abbrev pub bytes_of : DiskState → List ℕ
bytes_of disk = unwrap_or disk.contents []

-- a device that tells nothing, as a file of the system
abbrev pub silent : DiskState
silent = record { honest = ⊥; contents = None; may_leave = λ _. ⊥; moment = 0; left_since = λ _ _. ⊥; flushes = [] }

-- a stop leaves this image and no other
abbrev pub Only : List ℕ → (List ℕ → Type 0) → Type 0
Only image may_leave = (c : List ℕ) → may_leave c → c ≡ image

-- each new image is an old one after a step
abbrev pub Follows : (List ℕ → List ℕ → Type 0) → (List ℕ → Type 0) → (List ℕ → Type 0) → Type 0
Follows step old new = (c : List ℕ) → new c → (d : List ℕ) × old d × step d c

-- no call changes whether a device is honest, or whether it tells its bytes
pub record SameKind (old new : DiskState) : Type 0 where
  pub honest : old.honest ↔ new.honest
  pub told : is_some new.contents ≡ is_some old.contents

-- time goes on: the images since a moment are those of before and those that a stop now may leave
pub record Elapses (old new : DiskState) : Type 0 where
  pub later : old.moment ≤ new.moment
  pub nothing_else : (t : ℕ) (c : List ℕ) → t ≤ old.moment → new.left_since t c → old.left_since t c ⊎ new.may_leave c
  pub keeps : (t : ℕ) (c : List ℕ) → t ≤ old.moment → old.left_since t c → new.left_since t c

-- a call that writes nothing: the bytes stay, and there is no new image
pub record Stays (old new : DiskState) : Type 0 where
  pub contents : bytes_of new ≡ bytes_of old
  pub images : (c : List ℕ) → new.may_leave c → old.may_leave c

-- what a write does; one that failed may have written anything into its range
pub record Wrote {T E : Type 0} (old new : DiskState) (at : ℕ) (bytes : List ℕ) (result : Result T E) : Type 0 where
  pub done : OnOk result (Holds (bytes_of old) at bytes (bytes_of new))
  pub failed : OnErr result (Torn (Outside at (length bytes)) (bytes_of old) (bytes_of new))
  pub images : Follows (Torn (Outside at (length bytes))) old.may_leave new.may_leave
  pub flushes : new.flushes ≡ old.flushes

-- what a flush does; after one that succeeded a stop leaves what a read gives
pub record Flushed {T E : Type 0} (old new : DiskState) (result : Result T E) : Type 0 where
  pub stays : Stays old new
  pub durable : OnOk result (Only (bytes_of new) new.may_leave)
  pub noted : OnOk result (new.flushes ≡ old.flushes ++ new.moment ∷ [])
  pub unnoted : OnErr result (new.flushes ≡ old.flushes)
