-- The limits by their names, and what lies within them.
use Rattle.std.specs.Prelude.{ℕ, ◌<◌, ◌≤◌}
use Rattle.zms_units.specs.declared.limits.TheConstants as constants

-- the shifts that make a unit
abbrev pub MIN_ASHIFT : ℕ
MIN_ASHIFT = constants.MIN_ASHIFT

abbrev pub MAX_ASHIFT : ℕ
MAX_ASHIFT = constants.MAX_ASHIFT

-- how many units a metaslab may have
abbrev pub MIN_UNITS : ℕ
MIN_UNITS = constants.MIN_UNITS

abbrev pub MAX_UNITS : ℕ
MAX_UNITS = constants.MAX_UNITS

-- the largest block, in bytes
abbrev pub MAX_BLOCK_SIZE : ℕ
MAX_BLOCK_SIZE = constants.MAX_BLOCK_SIZE

-- the group with which a pool begins, and what all groups are below
abbrev pub FIRST_GROUP : ℕ
FIRST_GROUP = constants.FIRST_GROUP

abbrev pub GROUPS_END : ℕ
GROUPS_END = constants.GROUPS_END

-- how many lanes, commands, bytes of text and data devices there may be
abbrev pub MAX_LANES : ℕ
MAX_LANES = constants.MAX_LANES

abbrev pub MAX_COMMANDS : ℕ
MAX_COMMANDS = constants.MAX_COMMANDS

-- the most that commands times metaslabs may be
abbrev pub MAX_COMMANDS_TIMES_METASLABS : ℕ
MAX_COMMANDS_TIMES_METASLABS = constants.MAX_COMMANDS_TIMES_METASLABS

abbrev pub MAX_TEXT_BYTES : ℕ
MAX_TEXT_BYTES = constants.MAX_TEXT_BYTES

abbrev pub MAX_DEVICES : ℕ
MAX_DEVICES = constants.MAX_DEVICES

-- how many cursors and buckets a metaslab has
abbrev pub CURSORS : ℕ
CURSORS = constants.CURSORS

abbrev pub BUCKETS : ℕ
BUCKETS = constants.BUCKETS

-- from where on space is ample
abbrev pub AMPLE_BYTES : ℕ
AMPLE_BYTES = constants.AMPLE_BYTES

abbrev pub AMPLE_SHARE : ℕ
AMPLE_SHARE = constants.AMPLE_SHARE

-- a shift that makes a unit of a vdev
abbrev pub IsShift : ℕ → Type 0
IsShift ashift = (MIN_ASHIFT ≤ ashift) × (ashift ≤ MAX_ASHIFT)

-- a number of units that a metaslab may have
abbrev pub IsUnitCount : ℕ → Type 0
IsUnitCount units = (MIN_UNITS ≤ units) × (units ≤ MAX_UNITS)

-- a size that a block may have, in bytes
abbrev pub IsBlockSize : ℕ → Type 0
IsBlockSize size = (0 < size) × (size ≤ MAX_BLOCK_SIZE)

-- a group at which a pool may be opened
abbrev pub IsPoolGroup : ℕ → Type 0
IsPoolGroup group = (FIRST_GROUP ≤ group) × (group < GROUPS_END)

-- the number of a lane
abbrev pub IsLane : ℕ → Type 0
IsLane lane = (1 ≤ lane) × (lane ≤ MAX_LANES)
