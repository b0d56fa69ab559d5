-- The entries that runs of units are written as.
use Rattle.std.specs.Prelude.{ℕ, ◌+◌, ◌-◌, ◌*◌, ◌^◌, nat_le, if◌then◌else◌, List, [], ◌∷◌, ◌++◌, map}
use Rattle.zms_units.specs.Limits.{IsShift}
use Rattle.zms_units.specs.declared.segments.Seg.{Seg}
use Rattle.zms_units.specs.Segments.{AreSegs, AreRisingFrom}
use Rattle.sm_entry.specs.Grammar.{type_bit}
use Rattle.sm_entry.specs.declared.SmType.{SmType}
use Rattle.sm_entry.specs.declared.SmType.TheVariants.{Alloc, Free}
use Rattle.sm_entry.specs.declared.Entry.{Entry}
use Rattle.sm_entry.specs.declared.Entry.TheVariants.{One, Two, Debug}
use Rattle.space_map.specs.declared.places.MapKind.{MapKind}
use Rattle.space_map.specs.declared.places.MapKind.TheVariants.{Side as SideMap, Log as LogMap}
use Rattle.space_map.specs.declared.places.Found.{Found}
use Rattle.space_map.specs.declared.places.Place.{Place}
use Rattle.space_map.specs.declared.places.Place.TheVariants.{Side, Log}

-- how many words stand before those that a batch is added to
abbrev pub words_before : Place → ℕ
words_before (Side before) = before
words_before (Log _ _ _) = 0

-- how many sectors of 512 bytes a unit of 2^ashift bytes has
abbrev pub sectors : ℕ → ℕ
sectors ashift = 2 ^ (ashift - 9)

-- units of 512 to 4096 bytes
abbrev pub HasShift : Place → Type 0
HasShift (Side _) = Unit {0}
HasShift (Log _ _ ashift) = IsShift ashift

-- the entry of a run: on a side one word for up to 32768 units and else two, in a log always two, in sectors
abbrev pub entry_of : Place → SmType → Seg → Entry
entry_of (Side _) kind run = if nat_le run.count 32768 then One run.start run.count kind else Two 0 run.start run.count kind
entry_of (Log vdev start_sector ashift) kind run = Two vdev (start_sector + run.start * sectors ashift) (run.count * sectors ashift) kind

-- the entries of a batch: a debug entry of the type, the first pass and the group, and then the runs; none without runs
abbrev pub batch : Place → ℕ → SmType → List Seg → List Entry
batch place group kind [] = []
batch place group kind (run ∷ runs) = Debug (type_bit kind) 1 group ∷ map (entry_of place kind) (run ∷ runs)

-- the entries of a side that is written anew: its whole range as allocated, and then its free runs as freed
abbrev pub condensed : ℕ → ℕ → List Seg → List Entry
condensed group units free = batch (Side 0) group Alloc (record { start = 0; count = units } ∷ []) ++ batch (Side 0) group Free free

-- a run as it is found again
abbrev pub found_as : Place → SmType → Seg → Found
found_as (Side _) kind run = record { vdev = 0; run = record { offset = run.start; run = run.count; kind = kind } }
found_as (Log vdev start_sector ashift) kind run =
    record { vdev = vdev; run = record { offset = start_sector + run.start * sectors ashift; run = run.count * sectors ashift; kind = kind } }

-- runs that are not empty, rise, and do not overlap
abbrev pub AreRising : List Seg → Type 0
AreRising runs = (high : ℕ) × AreRisingFrom 0 high runs

-- a kind of map reads runs that are written at a place: a side of enough units those of a side, a log those of a log
abbrev pub ReadsAt : Place → List Seg → MapKind → Type 0
ReadsAt (Side _) runs (SideMap units) = AreSegs units runs
ReadsAt (Log _ _ _) runs LogMap = Unit {0}
ReadsAt (Side _) runs LogMap = ⊥
ReadsAt (Log _ _ _) runs (SideMap units) = ⊥
