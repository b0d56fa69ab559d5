-- What a load answers.
use Rattle.std.specs.Prelude.{◌≡◌, ℕ, ◌+◌, ◌-◌, ◌^◌, min, Bool, true, false, Option, Some, List, Result, Ok, Err}
use Rattle.turn_cell.specs.Notes.{IsPrefix}
use Rattle.ms_model.specs.Units.{is_loaded}
use Rattle.ms_model.specs.declared.notes.Noted.{Noted}
use Rattle.ms_cell.specs.declared.loader.LoadFault.{LoadFault}
use Rattle.ms_cell.specs.declared.loader.LoadFault.TheVariants.{Memory}
use Rattle.ms_cell.specs.Passes.{Passes, seen_in}

-- a load refusal is counted, and is the last one from then on; nothing else is
abbrev pub Counts : Result (Unit {0}) LoadFault → ℕ → Option LoadFault → ℕ → Option LoadFault → Type 0
Counts (Ok _) count last count_now last_now = (count_now ≡ count) × (last_now ≡ last)
Counts (Err Memory) count last count_now last_now = (count_now ≡ count) × (last_now ≡ last)
Counts (Err fault) count last count_now last_now = (count_now ≡ min (count + 1) (2 ^ 64 - 1)) × (last_now ≡ Some fault)

-- at a place of the journal between what the passes had seen and what they have seen
pub record IsPlace (loaded : Bool) (number : ℕ) (p q : Passes) : Type 0 where
  pub place : List Noted
  pub from : IsPrefix (seen_in p number) place
  pub to : IsPrefix place (seen_in q number)
  pub is : is_loaded place ≡ loaded

-- the metaslab is loaded, or after a load refusal not
abbrev pub IsLoadedAt : Result (Unit {0}) LoadFault → ℕ → Passes → Passes → Type 0
IsLoadedAt (Ok _) number p q = IsPlace true number p q
IsLoadedAt (Err Memory) number p q = Unit {0}
IsLoadedAt (Err fault) number p q = IsPlace false number p q
