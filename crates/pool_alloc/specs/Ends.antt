-- What becomes of an allocation whose search for the next copy's place was cut short.
use Rattle.std.specs.Prelude.{◌≡◌, ℕ, Option, Some, None, List, [], ◌∷◌, ◌++◌}
use Rattle.zms_units.specs.declared.segments.Group.{Group}
use Rattle.zms_units.specs.declared.blocks.Dva.{Dva}
use Rattle.lane_passes.specs.Lanes.{LaneEvent, Ground}
use Rattle.lane_passes.specs.Turns.{Nothing}
use Rattle.pool_alloc.specs.Undone.{CopiesUndone}
use Rattle.pool_alloc.specs.declared.answers.AllocFault.{AllocFault}
use Rattle.pool_alloc.specs.declared.answers.AllocFault.TheVariants.{Late as LateFault, Device as DeviceFault, Damaged as DamagedFault, Suspended as SuspendedFault, Memory as MemoryFault}
use Rattle.pool_alloc.specs.declared.looks.Cut.{Cut}
use Rattle.pool_alloc.specs.declared.looks.Cut.TheVariants.{Late, Device, Damaged, Suspended, Memory, Unposted}

-- the refusal that it tells of; want of memory is none
abbrev pub refusal_of : Cut → Option AllocFault
refusal_of (Late group collected) = Some (LateFault group collected)
refusal_of (Device before after) = Some (DeviceFault before after)
refusal_of (Damaged id damage) = Some (DamagedFault id damage)
refusal_of (Suspended first) = Some (SuspendedFault first)
refusal_of Memory = None
refusal_of (Unposted _) = None

-- the copies that are granted, with one that was not posted
abbrev pub kept_of : List Dva → Cut → List Dva
kept_of dvas (Unposted dva) = dvas ++ dva ∷ []
kept_of dvas _ = dvas

-- behind a refusal the copies are taken back, and for want of memory they stay
abbrev pub EndsBy : Option AllocFault → List Dva → ℕ → Group → List Dva → AllocFault → Ground → List LaneEvent → Type 0
EndsBy (Some refusal) kept lane group dvas fault g es = CopiesUndone lane group dvas refusal fault g es
EndsBy None kept lane group dvas fault g es = (fault ≡ MemoryFault kept) × Nothing g es

abbrev pub CutShort : Cut → ℕ → Group → List Dva → AllocFault → Ground → List LaneEvent → Type 0
CutShort cut lane group dvas fault g es = EndsBy (refusal_of cut) (kept_of dvas cut) lane group dvas fault g es
