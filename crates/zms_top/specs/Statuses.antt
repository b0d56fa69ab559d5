-- What the program shows of a status: its text, and its exit status.
use Rattle.std.specs.Prelude.{ℕ, List, ◌∷◌, ◌++◌, codes, decimal}
use Rattle.std.specs.List.{flat_map}
use Rattle.zms_units.specs.declared.faults.Damage.{Damage}
use Rattle.zms_units.specs.declared.faults.Damage.TheVariants.{Word, Counts, Unit as UnitDiffers}
use Rattle.zms_units.specs.declared.faults.MapCause.{MapCause}
use Rattle.zms_units.specs.declared.faults.MapCause.TheVariants.{BadPad, Short, Straddle, Spelling, Vdev, Range}
use Rattle.vdev_map.specs.declared.layout.Part.{Part}
use Rattle.vdev_map.specs.declared.layout.Part.TheVariants.{Head, Table}
use Rattle.meta_store.specs.declared.causes.OpenCause.{OpenCause}
use Rattle.meta_store.specs.declared.causes.OpenCause.TheVariants.{NoSlot, NotRetained, Spent, HeadDamaged, TableDamaged, Malformed, MapDamaged}
use Rattle.trace_text.specs.Numbers.{hex_digits}
use Rattle.zms_top.specs.declared.status.Status.{Status}
use Rattle.zms_top.specs.declared.status.Status.TheVariants.{Done, Usage, BadText, ReadFault, WriteFault, DeviceFault, NotAPool, Memory, Found}
use Rattle.zms_top.specs.declared.status.PoolCause.{PoolCause}
use Rattle.zms_top.specs.declared.status.PoolCause.TheVariants.{Open, OtherLayout, AlreadyPool}

-- a digest is written byte by byte, each in two hexadecimal digits
abbrev pub digest_text : List ℕ → List ℕ
digest_text digest = flat_map (hex_digits 2) digest

abbrev pub part_word : Part → List ℕ
part_word Head = codes "head"
part_word Table = codes "table"

abbrev pub map_cause_word : MapCause → List ℕ
map_cause_word BadPad = codes "badpad"
map_cause_word Short = codes "short"
map_cause_word Straddle = codes "straddle"
map_cause_word Spelling = codes "spelling"
map_cause_word Vdev = codes "vdev"
map_cause_word Range = codes "range"

-- what is wrong with the words of a metaslab
abbrev pub damage_text : Damage → List ℕ
damage_text (Word fault) = codes "word " ++ (decimal fault.word ++ (32 ∷ map_cause_word fault.cause))
damage_text (Counts kept found) = codes "held " ++ (decimal kept ++ (codes " found " ++ decimal found))
damage_text (UnitDiffers unit) = codes "unit " ++ (decimal unit ++ codes " differs")

-- why a pool does not open
abbrev pub open_cause_text : OpenCause → List ℕ
open_cause_text NoSlot = codes "no slot"
open_cause_text (NotRetained asked newest) = codes "group " ++ (decimal asked.0 ++ (codes " not retained, newest " ++ decimal newest.0))
open_cause_text (Spent group) = codes "group " ++ (decimal group.0 ++ codes " spent")
open_cause_text (HeadDamaged kept found) = codes "head damaged " ++ (digest_text kept ++ (32 ∷ digest_text found))
open_cause_text (TableDamaged group kept found) =
    codes "table " ++ (decimal group.0 ++ (codes " damaged " ++ (digest_text kept ++ (32 ∷ digest_text found))))
open_cause_text (Malformed part at) = part_word part ++ (codes " malformed at " ++ decimal at)
open_cause_text (MapDamaged id damage) = codes "metaslab " ++ (decimal id.vdev ++ (32 ∷ (decimal id.index ++ (32 ∷ damage_text damage))))

abbrev pub cause_text : PoolCause → List ℕ
cause_text (Open cause) = open_cause_text cause
cause_text OtherLayout = codes "other layout"
cause_text (AlreadyPool newest) = codes "already a pool, newest " ++ decimal newest.0

-- the line on standard error; that of `Done` is not shown
abbrev pub status_text : Status → List ℕ
status_text Done = codes "zms: done"
status_text Usage = codes "zms: usage"
status_text (BadText line) = codes "zms: bad text at line " ++ decimal line
status_text ReadFault = codes "zms: read fault"
status_text WriteFault = codes "zms: write fault"
status_text DeviceFault = codes "zms: device fault"
status_text (NotAPool cause) = codes "zms: not a pool: " ++ cause_text cause
status_text Memory = codes "zms: out of memory"
status_text (Found n) = codes "zms: found " ++ decimal n

-- the program's exit status
abbrev pub exit_status : Status → ℕ
exit_status Done = 0
exit_status Usage = 1
exit_status (BadText _) = 2
exit_status ReadFault = 3
exit_status WriteFault = 4
exit_status DeviceFault = 5
exit_status (NotAPool _) = 6
exit_status Memory = 7
exit_status (Found _) = 8
