-- Of load refusals a call meets at most one, and answers it or want of memory.
use Rattle.std.specs.Prelude.{◌≡◌, ℕ, ◌+◌, ◌-◌, ◌^◌, min, Option, Some, None, Result, Ok, Err}
use Rattle.ms_cell.specs.declared.loader.LoadFault.{LoadFault}
use Rattle.ms_cell.specs.declared.loader.LoadFault.TheVariants.{Suspended, Device, Damaged}
use Rattle.pool_alloc.specs.declared.answers.AllocFault.{AllocFault}
use Rattle.pool_alloc.specs.declared.answers.AllocFault.TheVariants.{Device as AllocDevice, Damaged as AllocDamaged, Suspended as AllocSuspended, Memory as AllocMemory}
use Rattle.pool_alloc.specs.declared.answers.FreeFault.{FreeFault}
use Rattle.pool_alloc.specs.declared.answers.FreeFault.TheVariants.{Device as FreeDevice, Damaged as FreeDamaged, Suspended as FreeSuspended}

-- the load refusal that an answer tells of
abbrev pub load_of_alloc : AllocFault → Option LoadFault
load_of_alloc (AllocDevice before after) = Some (Device before after)
load_of_alloc (AllocDamaged id damage) = Some (Damaged id damage)
load_of_alloc (AllocSuspended first) = Some (Suspended first)
load_of_alloc _ = None

abbrev pub load_of_free : FreeFault → Option LoadFault
load_of_free (FreeDevice before after) = Some (Device before after)
load_of_free (FreeDamaged id damage) = Some (Damaged id damage)
load_of_free (FreeSuspended first) = Some (Suspended first)
load_of_free _ = None

abbrev pub of_result : {A E : Type 0} → (E → Option LoadFault) → Result A E → Option LoadFault
of_result load_of (Ok _) = None
of_result load_of (Err fault) = load_of fault

-- it is counted, and is the last one from then on; nothing else is
abbrev pub CountsOne : Option LoadFault → ℕ → Option LoadFault → ℕ → Option LoadFault → Type 0
CountsOne None count last count_now last_now = (count_now ≡ count) × (last_now ≡ last)
CountsOne (Some fault) count last count_now last_now = (count_now ≡ min (count + 1) (2 ^ 64 - 1)) × (last_now ≡ Some fault)

-- an allocation that met a load refusal answers it, or that memory ran out while copies were taken back
abbrev pub CountsAlloc : {A : Type 0} → Result A AllocFault → ℕ → Option LoadFault → ℕ → Option LoadFault → Type 0
CountsAlloc (Err (AllocMemory kept)) count last count_now last_now = (fault : Option LoadFault) × CountsOne fault count last count_now last_now
CountsAlloc (Err fault) count last count_now last_now = CountsOne (load_of_alloc fault) count last count_now last_now
CountsAlloc (Ok _) count last count_now last_now = CountsOne None count last count_now last_now
