-- What the words of a map hold, and where they are at fault.
use Rattle.std.specs.Prelude.{◌≡◌, ℕ, ◌+◌, ◌==◌, nat_le, true, false, if◌then◌else◌, Option, Some, None, List, [], ◌∷◌, ◌++◌, drop, slice_index}
use Rattle.std.specs.List.{filter_map}
use Rattle.sm_entry.specs.Grammar.{HasBadPad, IsCutShort, Says, size_of}
use Rattle.sm_entry.specs.declared.Entry.{Entry}
use Rattle.sm_entry.specs.declared.Entry.TheVariants.{One, Two, Debug}
use Rattle.zms_units.specs.declared.faults.MapCause.{MapCause}
use Rattle.zms_units.specs.declared.faults.MapCause.TheVariants.{BadPad, Short, Straddle, Spelling, Vdev, Range}
use Rattle.zms_units.specs.declared.faults.MapFault.{MapFault}
use Rattle.space_map.specs.declared.faults.DecodeFault.{DecodeFault}
use Rattle.space_map.specs.declared.faults.DecodeFault.TheVariants.{Map, Memory}
use Rattle.space_map.specs.declared.places.MapKind.{MapKind}
use Rattle.space_map.specs.declared.places.MapKind.TheVariants.{Side, Log}
use Rattle.space_map.specs.declared.places.Found.{Found}
use Rattle.space_map.specs.Layout.{is_block_end, sizes, Holds}

-- what is wrong with a run on a side of so many units
abbrev pub range_fault : ℕ → ℕ → ℕ → Option MapCause
range_fault units offset run = if nat_le (offset + run) units then None else Some Range

-- what is wrong with an entry of two words, wherever it begins: on a side a run that one word can say, or a vdev; in a
-- log nothing
abbrev pub long_fault : MapKind → ℕ → ℕ → ℕ → Option MapCause
long_fault (Side units) vdev offset run = if nat_le run 32768 then Some Spelling else if vdev == 0 then range_fault units offset run else Some Vdev
long_fault Log vdev offset run = None

-- why a map refuses an entry that begins at a word: the first cause in this order, or none
abbrev pub fault_of : MapKind → ℕ → Entry → Option MapCause
fault_of kind at (Debug _ _ _) = None
fault_of (Side units) at (One offset run _) = range_fault units offset run
fault_of Log at (One _ _ _) = Some Spelling
fault_of kind at (Two vdev offset run _) = if is_block_end at then Some Straddle else long_fault kind vdev offset run

-- no entry is refused, from a word on
abbrev pub AreSound : MapKind → ℕ → List Entry → Type 0
AreSound kind at [] = Unit {0}
AreSound kind at (entry ∷ entries) = (fault_of kind at entry ≡ None) × AreSound kind (at + size_of entry) entries

-- the run that an entry gives; a debug entry gives none
abbrev pub found_in : Entry → Option Found
found_in (One offset run kind) = Some (record { vdev = 0; run = record { offset = offset; run = run; kind = kind } })
found_in (Two vdev offset run kind) = Some (record { vdev = vdev; run = record { offset = offset; run = run; kind = kind } })
found_in (Debug _ _ _) = None

-- the words of a map, from its start, are sound entries that give these runs, and nothing else
pub record Decodes (kind : MapKind) (words : List ℕ) (found : List Found) : Type 0 where
  pub entries : List Entry
  pub held : Holds words entries []
  pub sound : AreSound kind 0 entries
  pub given : filter_map found_in entries ≡ found

-- what begins at a word is at fault: it has bad pad bits; its second word is missing; or it is refused. An entry of two
-- words that begins at the end of a block straddles it, also where its second word is missing
pub data IsFault (kind : MapKind) (at : ℕ) (words : List ℕ) : MapCause → Type 0 where
  padded : HasBadPad (slice_index words 0) → IsFault kind at words BadPad
  cut : IsCutShort words → is_block_end at ≡ false → IsFault kind at words Short
  cut_across : IsCutShort words → is_block_end at ≡ true → IsFault kind at words Straddle
  refused : (entry : Entry) (cause : MapCause) → Says words entry → fault_of kind at entry ≡ Some cause → IsFault kind at words cause

-- the words of a map, from its start, are sound entries up to a word, and are at fault there
pub record IsFirstFault (kind : MapKind) (words : List ℕ) (fault : MapFault) : Type 0 where
  pub entries : List Entry
  pub rest : List ℕ
  pub held : Holds words entries rest
  pub sound : AreSound kind 0 entries
  pub word : fault.word ≡ sizes entries
  pub faulty : IsFault kind fault.word rest fault.cause

-- words are refused for their first fault, if it isn't for want of memory
abbrev pub IsRefusal : MapKind → List ℕ → DecodeFault → Type 0
IsRefusal kind words (Map fault) = IsFirstFault kind words fault
IsRefusal kind words Memory = Unit {0}

-- a sound entry begins at a word
pub record IsSoundAt (kind : MapKind) (words : List ℕ) (at : ℕ) (entry : Entry) : Type 0 where
  pub says : Says (drop at words) entry
  pub sound : fault_of kind at entry ≡ None

-- an entry is taken from the words, at a word: the next word, and the runs so far with the run that it gives
pub record TakesEntry (kind : MapKind) (words : List ℕ) (at next : ℕ) (before after : List Found) : Type 0 where
  pub entry : Entry
  pub taken : IsSoundAt kind words at entry
  pub next_word : next ≡ at + size_of entry
  pub found : after ≡ before ++ filter_map found_in (entry ∷ [])

-- none can be taken there for a fault, if it isn't for want of memory
abbrev pub IsRefusalAt : MapKind → List ℕ → ℕ → DecodeFault → Type 0
IsRefusalAt kind words at (Map fault) = (fault.word ≡ at) × IsFault kind at (drop at words) fault.cause
IsRefusalAt kind words at Memory = Unit {0}
