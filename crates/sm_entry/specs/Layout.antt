-- Where the fields of space map words lie.
use Rattle.std.specs.Prelude.{ℕ, ◌+◌, ◌-◌, ◌*◌, ◌/◌, ◌%◌, ◌^◌, ◌<◌}

-- a field of a word: its highest and its lowest bit
pub record Field : Type 0 where
  pub high : ℕ
  pub low : ℕ

-- the form of an entry of one word, which is 0
abbrev pub one_form : Field
one_form = record { high = 63; low = 63 }

-- its offset
abbrev pub one_offset : Field
one_offset = record { high = 62; low = 16 }

-- its type
abbrev pub one_type : Field
one_type = record { high = 15; low = 15 }

-- its run, less 1
abbrev pub one_run : Field
one_run = record { high = 14; low = 0 }

-- the form of all other words: 3 begins an entry of two, 2 is a debug word
abbrev pub form : Field
form = record { high = 63; low = 62 }

-- in the first word of an entry of two: pad, which is 0
abbrev pub two_pad : Field
two_pad = record { high = 61; low = 60 }

-- its run, less 1
abbrev pub two_run : Field
two_run = record { high = 59; low = 24 }

-- its vdev
abbrev pub two_vdev : Field
two_vdev = record { high = 23; low = 0 }

-- in the second word: its type
abbrev pub second_type : Field
second_type = record { high = 63; low = 63 }

-- its offset
abbrev pub second_offset : Field
second_offset = record { high = 62; low = 0 }

-- in a debug word: the action
abbrev pub debug_action : Field
debug_action = record { high = 61; low = 60 }

-- the pass of sync
abbrev pub debug_pass : Field
debug_pass = record { high = 59; low = 50 }

-- the low bits of the group
abbrev pub debug_group : Field
debug_group = record { high = 49; low = 0 }

-- how many values a field can hold
abbrev pub values_of : Field → ℕ
values_of field = 2 ^ (field.high + 1 - field.low)

-- the value that a field of a word holds
abbrev pub held : Field → ℕ → ℕ
held field word = word / 2 ^ field.low % values_of field

-- a value at the place of its field
abbrev pub placed : Field → ℕ → ℕ
placed field value = value * 2 ^ field.low

-- the value fits the field
abbrev pub FitsField : Field → ℕ → Type 0
FitsField field value = value < values_of field
