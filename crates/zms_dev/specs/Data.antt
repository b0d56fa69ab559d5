-- The device of one vdev.
use Rattle.std.specs.Prelude.{◌≡◌, ℕ, List, [], ◌∷◌, ◌++◌, length, Option, None, is_some, unwrap_or, Result, OnOk, OnErr}
use Rattle.zms_dev.specs.Bytes.{Holds, DiffersOnlyIn}

-- its bytes, and the first byte and length of each discard that answered Ok; each where it tells them
pub record DataState : Type 0 where
  pub contents : Option (List ℕ)
  pub discards : Option (List (ℕ × ℕ))

-- the bytes that it tells
abbrev pub data_of : DataState → List ℕ
data_of state = unwrap_or state.contents []

-- the discards that it tells
abbrev pub discards_of : DataState → List (ℕ × ℕ)
discards_of state = unwrap_or state.discards []

-- a device that tells nothing, as a file of the system
abbrev pub mute : DataState
mute = record { contents = None; discards = None }

-- no call changes what a device tells of
pub record TellsAlike (old new : DataState) : Type 0 where
  pub contents : is_some new.contents ≡ is_some old.contents
  pub discards : is_some new.discards ≡ is_some old.discards

-- what a write does to the bytes; one that failed may leave anything in its range
pub record WroteData {T E : Type 0} (old new : DataState) (at : ℕ) (bytes : List ℕ) (result : Result T E) : Type 0 where
  pub done : OnOk result (Holds (data_of old) at bytes (data_of new))
  pub failed : OnErr result (DiffersOnlyIn at (length bytes) (data_of old) (data_of new))

-- a discard that answered Ok is noted
pub record Noted {T E : Type 0} (old new : DataState) (at len : ℕ) (result : Result T E) : Type 0 where
  pub done : OnOk result (discards_of new ≡ discards_of old ++ (at, len) ∷ [])
  pub failed : OnErr result (discards_of new ≡ discards_of old)
