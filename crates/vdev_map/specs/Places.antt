-- Where everything lies on the pool device. Places and lengths are in bytes, from the device's start.
use Rattle.std.specs.Prelude.{◌≡◌, ℕ, ◌+◌, ◌*◌, ◌/◌, ◌%◌, ◌≤◌, ◌⊎◌, List}
use Rattle.zms_units.specs.declared.places.MsId.{MsId}
use Rattle.zms_units.specs.declared.places.VdevRow.{VdevRow}
use Rattle.vdev_map.specs.Numbers.{IsIn, row_at, before}
use Rattle.vdev_map.specs.declared.layout.Form.{Form}
use Rattle.vdev_map.specs.declared.layout.Form.TheVariants.{Whole, Logged}
use Rattle.vdev_map.specs.declared.layout.Head.{Head}
use Rattle.vdev_map.specs.declared.places.Piece.{Piece}
use Rattle.vdev_map.specs.declared.places.Piece.TheVariants.{Front, Slot, Table, Log, WholeSlot, Side}

-- rounded up to whole blocks of 4096 bytes
abbrev pub rounded : ℕ → ℕ
rounded bytes = (bytes + 4095) / 4096 * 4096

-- the ring slot of a group
abbrev pub slot_place : ℕ → ℕ
slot_place group = 4096 + 1024 * (group % 128)

-- the table slot of a group
abbrev pub table_place : ℕ → ℕ
table_place group = 135168 + 262144 * (group % 8)

-- the length of a log slot, which has room for four words for each run that a group logs
abbrev pub log_len : ℕ → ℕ
log_len log = rounded (32 * log)

-- the log slot of a group
abbrev pub log_place : Head → ℕ → ℕ
log_place head group = 2232320 + log_len head.log * (group % (head.flush + 4))

-- the most words that a whole slot or a side has room for
abbrev pub room_of : Form → ℕ → ℕ
room_of Whole units = units + 64
room_of Logged units = 4 * units + 64

-- the length of a whole slot, or of a side
abbrev pub words_len : Form → ℕ → ℕ
words_len form units = rounded (8 * room_of form units)

-- how many bytes a metaslab has: eight whole slots, or two sides
abbrev pub metaslab_len : Form → VdevRow → ℕ
metaslab_len Whole row = 8 * words_len Whole row.units
metaslab_len Logged row = 2 * words_len Logged row.units

-- where the metaslabs begin: where the log slots would, or behind them
abbrev pub metaslabs_place : Form → ℕ → ℕ → ℕ
metaslabs_place Whole flush log = 2232320
metaslabs_place Logged flush log = 2232320 + log_len log * (flush + 4)

-- where a metaslab begins, which is the place that its row in a table names
abbrev pub row_place : Head → List VdevRow → MsId → ℕ
row_place head vdevs id = metaslabs_place head.form head.flush head.log + before (metaslab_len head.form) vdevs id

-- the place of each thing on the device
abbrev pub place_of : Head → List VdevRow → Piece → ℕ
place_of head vdevs Front = 0
place_of head vdevs (Slot group) = slot_place group.0
place_of head vdevs (Table group) = table_place group.0
place_of head vdevs (Log group) = log_place head group.0
place_of head vdevs (WholeSlot id group) = row_place head vdevs id + words_len Whole ((row_at vdevs id.vdev).units) * (group.0 % 8)
place_of head vdevs (Side id side) = row_place head vdevs id + words_len Logged ((row_at vdevs id.vdev).units) * side

-- its length
abbrev pub len_of : Head → List VdevRow → Piece → ℕ
len_of head vdevs Front = 4096
len_of head vdevs (Slot group) = 1024
len_of head vdevs (Table group) = 262144
len_of head vdevs (Log group) = log_len head.log
len_of head vdevs (WholeSlot id group) = words_len Whole (row_at vdevs id.vdev).units
len_of head vdevs (Side id side) = words_len Logged (row_at vdevs id.vdev).units

-- a pool of this form and these vdevs has the thing
abbrev pub IsPiece : Head → List VdevRow → Piece → Type 0
IsPiece head vdevs Front = Unit {0}
IsPiece head vdevs (Slot group) = Unit {0}
IsPiece head vdevs (Table group) = Unit {0}
IsPiece head vdevs (Log group) = head.form ≡ Logged
IsPiece head vdevs (WholeSlot id group) = (head.form ≡ Whole) × IsIn vdevs id
IsPiece head vdevs (Side id side) = (head.form ≡ Logged) × (IsIn vdevs id × (side ≤ 1))

-- two names for one thing: groups share a slot where they are as many groups apart as there are slots, or a multiple
abbrev pub AreSame : Head → Piece → Piece → Type 0
AreSame head Front Front = Unit {0}
AreSame head (Slot group) (Slot other) = group.0 % 128 ≡ other.0 % 128
AreSame head (Table group) (Table other) = group.0 % 8 ≡ other.0 % 8
AreSame head (Log group) (Log other) = group.0 % (head.flush + 4) ≡ other.0 % (head.flush + 4)
AreSame head (WholeSlot id group) (WholeSlot other_id other) = (id ≡ other_id) × (group.0 % 8 ≡ other.0 % 8)
AreSame head (Side id side) (Side other_id other) = (id ≡ other_id) × (side ≡ other)
AreSame head _ _ = ⊥

-- two byte ranges have no byte in common
abbrev pub AreApart : ℕ → ℕ → ℕ → ℕ → Type 0
AreApart at len other other_len = (at + len ≤ other) ⊎ (other + other_len ≤ at)

-- a byte range has no byte in common with that of any other thing on the device
abbrev pub IsApart : Head → List VdevRow → Piece → ℕ → ℕ → Type 0
IsApart head vdevs piece at len =
    (other : Piece) → IsPiece head vdevs other → (AreSame head piece other → ⊥) → AreApart at len (place_of head vdevs other) (len_of head vdevs other)
