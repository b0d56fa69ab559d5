-- What a load answers, by what was met and seen.
use Rattle.std.proofs.Common.{◌≡◌, ℕ, Bool, true, false, Some, Result, Ok, Err, List, refl, sym, subst}
use Rattle.zms_units.specs.declared.faults.First.{First}
use Rattle.zms_units.specs.declared.faults.First.TheVariants.{Device, Damaged}
use Rattle.zms_dev.specs.Causes.{Rose}
use Rattle.zms_dev.specs.Disk.{DiskState}
use Rattle.zms_dev.proofs.Counts.{rose}
use Rattle.lane_steps.proofs.Steps.{prefix_trans}
use Rattle.turn_cell.specs.Notes.{IsPrefix}
use Rattle.ms_model.specs.declared.notes.KeeperNote.{KeeperNote}
use Rattle.ms_cell.specs.declared.loader.LoadFault.{LoadFault}
use Rattle.ms_cell.specs.declared.loader.LoadFault.TheVariants.{Suspended, Device as DeviceFault, Damaged as DamagedFault, Memory}
use Rattle.ms_cell.specs.Passes.{Passes, seen_in}
use Rattle.ms_cell.specs.Loads.{IsPlace, IsLoadedAt}
use Rattle.pool_keeper.specs.Keeper.{IsSound}
use Rattle.pool_keeper.specs.Notes.{KeeperNoted, note_of, IsCounted}
use Rattle.pool_keeper.specs.Lines.{LoadNoted, load_fault}
use Rattle.pool_keeper.specs.declared.keeper.Keeper.{Keeper}

abbrev pub KeptRose : First → Type 0
KeptRose (Device before after) = Rose before after
KeptRose (Damaged id damage) = Unit {0}

kept_rose : (start now : ℕ) (first : First) → IsCounted start now (Some first) → KeptRose first
kept_rose start now (Device before after) is = rose before after is.1.0
kept_rose start now (Damaged id damage) is = tt

pub sound_rose : {D R : Type 0} (state : D → DiskState) (faults : D → ℕ) (k : Keeper D R) (first : First) → IsSound state faults k → k.first ≡ Some first → KeptRose first
sound_rose state faults k first s is = kept_rose _ _ first (subst (IsCounted (faults k.start.store.value.disk) (faults k.store.disk)) is s.counts)

load_noted_by : (lane : ℕ) (first : First) (h : List KeeperNoted) → KeptRose first → LoadNoted lane (Err (load_fault first)) h (Some (lane, note_of first))
load_noted_by lane (Device before after) h rises = (refl, rises)
load_noted_by lane (Damaged id damage) h rises = refl

pub load_noted : (lane : ℕ) (first : First) (h : List KeeperNoted) (fault : LoadFault) (note : KeeperNote) → fault ≡ load_fault first → note ≡ note_of first → KeptRose first → LoadNoted lane (Err fault) h (Some (lane, note))
load_noted lane first h fault note is same rises =
    subst (λ (f : LoadFault). LoadNoted lane (Err f) h (Some (lane, note))) (sym is) (subst (λ (n : KeeperNote). LoadNoted lane (Err (load_fault first)) h (Some (lane, n))) (sym same) (load_noted_by lane first h rises))

pub place_wider : (loaded : Bool) (number : ℕ) (o p q r : Passes) → IsPrefix (seen_in o number) (seen_in p number) → IsPrefix (seen_in q number) (seen_in r number) → IsPlace loaded number p q → IsPlace loaded number o r
place_wider loaded number o p q r before after is = record {
  place = is.place;
  from = prefix_trans (seen_in o number) (seen_in p number) is.place before is.from;
  to = prefix_trans is.place (seen_in q number) (seen_in r number) is.to after;
  is = is.is;
}

pub place_grows : (loaded : Bool) (number : ℕ) (p q : Passes) → IsPlace loaded number p q → IsPrefix (seen_in p number) (seen_in q number)
place_grows loaded number p q is = prefix_trans (seen_in p number) is.place (seen_in q number) is.from is.to

unloaded_by : (first : First) (number : ℕ) (p q : Passes) → IsPlace false number p q → IsLoadedAt (Err (load_fault first)) number p q
unloaded_by (Device before after) number p q is = is
unloaded_by (Damaged id damage) number p q is = is

pub unloaded : (first : First) (fault : LoadFault) (number : ℕ) (p q : Passes) → fault ≡ load_fault first → IsPlace false number p q → IsLoadedAt (Err fault) number p q
unloaded first fault number p q same is = subst (λ (f : LoadFault). IsLoadedAt (Err f) number p q) (sym same) (unloaded_by first number p q is)

pub loaded_wider : (result : Result (Unit {0}) LoadFault) (number : ℕ) (o p q r : Passes) → IsPrefix (seen_in o number) (seen_in p number) → IsPrefix (seen_in q number) (seen_in r number) → IsLoadedAt result number p q → IsLoadedAt result number o r
loaded_wider (Ok x) number o p q r before after is = place_wider true number o p q r before after is
loaded_wider (Err Memory) number o p q r before after is = tt
loaded_wider (Err (Suspended first)) number o p q r before after is = place_wider false number o p q r before after is
loaded_wider (Err (DeviceFault low high)) number o p q r before after is = place_wider false number o p q r before after is
loaded_wider (Err (DamagedFault id damage)) number o p q r before after is = place_wider false number o p q r before after is
