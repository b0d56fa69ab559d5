-- The journal of the keeper: what was committed, and the first fault or damage, which is the last note.
use Rattle.std.specs.Prelude.{◌≡◌, ℕ, ◌≤◌, Option, Some, None, List, [], ◌∷◌, ◌++◌}
use Rattle.std.specs.List.{All}
use Rattle.zms_units.specs.declared.faults.First.{First}
use Rattle.zms_units.specs.declared.faults.First.TheVariants.{Device, Damaged}
use Rattle.zms_dev.specs.Causes.{one_more}
use Rattle.ms_model.specs.declared.notes.KeeperNote.{KeeperNote}
use Rattle.ms_model.specs.declared.notes.KeeperNote.TheVariants.{Sync, Fault, Damaged as DamagedNote}

-- a note with the lane whose command made it
abbrev pub KeeperNoted : Type 0
KeeperNoted = ℕ × KeeperNote

-- the right that it needs
abbrev pub keeper_right : KeeperNoted → ℕ
keeper_right n = n.0

-- the note of a first fault or damage
abbrev pub note_of : First → KeeperNote
note_of (Device before after) = Fault before after
note_of (Damaged id damage) = DamagedNote id

-- what a call notes that kept this
abbrev pub noted : ℕ → Option First → List KeeperNoted
noted lane None = []
noted lane (Some first) = (lane, note_of first) ∷ []

-- a sync up to a group of at most this one
abbrev pub IsSyncTo : ℕ → KeeperNoted → Type 0
IsSyncTo group (lane, Sync synced) = synced.0 ≤ group
IsSyncTo group (lane, _) = ⊥

-- a journal that ends with a first fault or damage
pub record EndsWith (first : First) (notes : List KeeperNoted) : Type 0 where
  pub before : List KeeperNoted
  pub lane : ℕ
  pub whole : notes ≡ before ++ (lane, note_of first) ∷ []

-- syncs of committed groups, and at most one fault or damage, with nothing after it: the one that is kept
abbrev pub AreNoted : ℕ → Option First → List KeeperNoted → Type 0
AreNoted group None notes = All (IsSyncTo group) notes
AreNoted group (Some first) notes = (ends : EndsWith first notes) × All (IsSyncTo group) ends.before

-- the device's count of faults: it stood still, or rose once, by the fault that is kept
abbrev pub IsCounted : ℕ → ℕ → Option First → Type 0
IsCounted start now None = now ≡ start
IsCounted start now (Some (Device before after)) = (before ≡ start) × ((after ≡ one_more before) × (now ≡ after))
IsCounted start now (Some (Damaged id damage)) = now ≡ start
