-- The grammar of space map words, by the form of the first word.
use Rattle.std.specs.Prelude.{◌≡◌, ◌≢◌, ℕ, ◌+◌, ◌-◌, ◌^◌, ◌<◌, ◌≤◌, List, [], ◌∷◌, length, slice_index}
use Rattle.sm_entry.specs.Layout.{Field, one_form, one_offset, one_type, one_run, form, two_pad, two_run, two_vdev, second_type, second_offset, debug_action, debug_pass, debug_group, values_of, held, placed, FitsField}
use Rattle.sm_entry.specs.declared.SmType.{SmType}
use Rattle.sm_entry.specs.declared.SmType.TheVariants.{Alloc, Free}
use Rattle.sm_entry.specs.declared.Entry.{Entry}
use Rattle.sm_entry.specs.declared.Entry.TheVariants.{One, Two, Debug}

-- the bit that stands for a type
abbrev pub type_bit : SmType → ℕ
type_bit Alloc = 0
type_bit Free = 1

-- a number of 64 bits
abbrev pub IsWord : ℕ → Type 0
IsWord word = word < 2 ^ 64

-- a word that is an entry by itself
pub record IsOneWord (word offset run : ℕ) (kind : SmType) : Type 0 where
  pub is_word : IsWord word
  pub has_form : held one_form word ≡ 0
  pub holds_offset : held one_offset word ≡ offset
  pub holds_type : held one_type word ≡ type_bit kind
  pub holds_run : held one_run word + 1 ≡ run

-- a word that may begin an entry of two
pub record BeginsTwo (word : ℕ) : Type 0 where
  pub has_form : held form word ≡ 3
  pub no_pad : held two_pad word ≡ 0

-- two words that are an entry
pub record AreTwoWords (first second vdev offset run : ℕ) (kind : SmType) : Type 0 where
  pub is_word : IsWord first
  pub begins : BeginsTwo first
  pub holds_run : held two_run first + 1 ≡ run
  pub holds_vdev : held two_vdev first ≡ vdev
  pub is_second : IsWord second
  pub holds_type : held second_type second ≡ type_bit kind
  pub holds_offset : held second_offset second ≡ offset

-- a debug word
pub record IsDebugWord (word action pass group : ℕ) : Type 0 where
  pub is_word : IsWord word
  pub has_form : held form word ≡ 2
  pub holds_action : held debug_action word ≡ action
  pub holds_pass : held debug_pass word ≡ pass
  pub holds_group : held debug_group word ≡ group

-- the words begin with an entry, whatever follows it
abbrev pub Says : List ℕ → Entry → Type 0
Says (word ∷ _) (One offset run kind) = IsOneWord word offset run kind
Says (first ∷ second ∷ _) (Two vdev offset run kind) = AreTwoWords first second vdev offset run kind
Says (word ∷ _) (Debug action pass group) = IsDebugWord word action pass group
Says _ _ = ⊥

-- how many words an entry takes
abbrev pub size_of : Entry → ℕ
size_of (One _ _ _) = 1
size_of (Two _ _ _ _) = 2
size_of (Debug _ _ _) = 1

-- a word of the form that begins an entry of two, whose pad bits are not 0
pub record HasBadPad (word : ℕ) : Type 0 where
  pub has_form : held form word ≡ 3
  pub some_pad : held two_pad word ≢ 0

-- the first word of an entry of two, without the second
pub record IsCutShort (words : List ℕ) : Type 0 where
  pub begins : BeginsTwo (slice_index words 0)
  pub alone : length words ≡ 1

-- a run fits its field, which keeps it less 1
pub record FitsRun (field : Field) (run : ℕ) : Type 0 where
  pub some : 1 ≤ run
  pub within : run ≤ values_of field

-- each field of an entry fits its bits
abbrev pub IsFitting : Entry → Type 0
IsFitting (One offset run _) = FitsField one_offset offset × FitsRun one_run run
IsFitting (Two vdev offset run _) = FitsField two_vdev vdev × (FitsField second_offset offset × FitsRun two_run run)
IsFitting (Debug action pass group) = FitsField debug_action action × (FitsField debug_pass pass × FitsField debug_group group)

-- the words of an entry that fits, each the sum of its fields at their places: the only ones that say it
abbrev pub entry_words : Entry → List ℕ
entry_words (One offset run kind) = (placed one_offset offset + placed one_type (type_bit kind) + placed one_run (run - 1)) ∷ []
entry_words (Two vdev offset run kind) = (placed form 3 + placed two_run (run - 1) + placed two_vdev vdev) ∷ (placed second_type (type_bit kind) + placed second_offset offset) ∷ []
entry_words (Debug action pass group) = (placed form 2 + placed debug_action action + placed debug_pass pass + placed debug_group group) ∷ []
