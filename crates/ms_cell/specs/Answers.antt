-- What a call at a metaslab answers and notes, by what the metaslab was when its pool was opened and the journal that the
-- call's turn found. Want of memory is the one free answer, and notes nothing.
use Rattle.std.specs.Prelude.{◌≡◌, ℕ, ◌-◌, ◌<◌, ◌≤◌, ◌⊎◌, not, ◌&&◌, ◌||◌, Bool, true, false, Option, Some, None, List, [], Result, Ok, Err}
use Rattle.zms_units.specs.declared.segments.Seg.{Seg}
use Rattle.zms_units.specs.declared.segments.Group.{Group}
use Rattle.zms_units.specs.Segments.{Covers, covered}
use Rattle.zms_units.specs.Runs.{AreMaximalRuns}
use Rattle.ms_model.specs.Origin.{Origin}
use Rattle.ms_model.specs.Units.{granted, held, last_act, is_loaded, settled_group, collected_group}
use Rattle.ms_model.specs.Spaces.{is_vacant}
use Rattle.ms_model.specs.Counts.{live_units, deferred_units, vacant_units}
use Rattle.ms_model.specs.Gains.{is_gained, is_given}
use Rattle.ms_model.specs.Legal.{IsGrantedBy, IsLegal, IsLowestLacking, MayDo, MayGrant, MayMiss, MayShut, MayFree, MayTakeBack}
use Rattle.ms_model.specs.Laws.{IsFreeOfAll}
use Rattle.ms_model.specs.declared.notes.Act.{Act}
use Rattle.ms_model.specs.declared.notes.Act.TheVariants.{Grant, Free, Unalloc, Miss as MissAct, Shut as ShutAct, Collect, Settle, Load}
use Rattle.ms_model.specs.declared.notes.Noted.{Noted}
use Rattle.ms_core.specs.Buffers.{changed_runs}
use Rattle.ms_core.specs.Differences.{AgreeBelow, IsLowestDifference}
use Rattle.ms_core.specs.Weights.{IsWeightOfSet, as_one_run}
use Rattle.ms_core.specs.declared.faults.Counts.{Counts}
use Rattle.ms_core.specs.declared.faults.MsFault.TheVariants.{Late, NotLive, Short, NotLoaded as NotLoadedFault}
use Rattle.ms_cell.specs.declared.answers.Look.{Look}
use Rattle.ms_cell.specs.declared.answers.Look.TheVariants.{Granted, Miss, Shut, NotLoaded}
use Rattle.ms_cell.specs.declared.answers.CellFault.{CellFault}
use Rattle.ms_cell.specs.declared.answers.CellFault.TheVariants.{Ms, Memory}

-- the note is this act of the lane
abbrev pub Notes : ℕ → Act → Option Noted → Type 0
Notes lane act note = note ≡ Some (record { lane = lane; act = act })

-- the group was collected
pub record IsLate (asked group collected : Group) (o : Origin) (h : List Noted) : Type 0 where
  pub same : group ≡ asked
  pub last : collected.0 ≡ collected_group o h
  pub late : asked.0 ≤ collected_group o h

-- it was not, and free space is not in memory
pub record IsNotLoaded (asked : Group) (o : Origin) (h : List Noted) : Type 0 where
  pub open_group : collected_group o h < asked.0
  pub unloaded : is_loaded h ≡ false

-- it was not, free space is in memory, and this is the lowest unit of the segment of which something does not hold
pub record IsNotLive (asked : Group) (Has : ℕ → Type 0) (seg : Seg) (unit : ℕ) (o : Origin) (h : List Noted) : Type 0 where
  pub open_group : collected_group o h < asked.0
  pub loaded : is_loaded h ≡ true
  pub lowest : IsLowestLacking Has seg unit

-- the fit of the vacant units, which nobody holds
pub record IsGrant (lane : ℕ) (group : Group) (count : ℕ) (seg : Seg) (o : Origin) (h : List Noted) (note : Option Noted) : Type 0 where
  pub notes : Notes lane (Grant group seg) note
  pub long : seg.count ≡ count
  pub may : MayGrant o h group.0 seg
  pub free : (u : ℕ) → Covers seg u → IsFreeOfAll o h u

abbrev pub GrantAnswer : ℕ → Group → ℕ → Result Look CellFault → Origin → List Noted → Option Noted → Type 0
GrantAnswer lane group count (Ok (Granted seg)) o h added = IsGrant lane group count seg o h added
GrantAnswer lane group count (Ok Miss) o h added = Notes lane (MissAct count) added × MayMiss o h count
GrantAnswer lane group count (Ok Shut) o h added = Notes lane ShutAct added × MayShut h
GrantAnswer lane group count (Ok NotLoaded) o h added = (added ≡ None) × IsNotLoaded group o h
GrantAnswer lane group count (Err (Ms (Late asked collected))) o h added = (added ≡ None) × IsLate group asked collected o h
GrantAnswer lane group count (Err Memory) o h added = added ≡ None
GrantAnswer lane group count (Err _) o h added = ⊥

-- what gives units back is refused alike: by the group, by what is in memory, and by the lowest unit that lacks something
abbrev pub GiveBackFault : Group → (ℕ → Type 0) → Seg → CellFault → Origin → List Noted → Type 0
GiveBackFault group Has seg (Ms (Late asked collected)) o h = IsLate group asked collected o h
GiveBackFault group Has seg (Ms NotLoadedFault) o h = IsNotLoaded group o h
GiveBackFault group Has seg (Ms (NotLive unit)) o h = IsNotLive group Has seg unit o h
GiveBackFault group Has seg Memory o h = Unit {0}
GiveBackFault group Has seg _ o h = ⊥

abbrev pub FreeAnswer : ℕ → Group → Seg → Result (Unit {0}) CellFault → Origin → List Noted → Option Noted → Type 0
FreeAnswer lane group seg (Ok _) o h added = Notes lane (Free group seg) added × MayFree o h group.0 seg
FreeAnswer lane group seg (Err fault) o h added = (added ≡ None) × GiveBackFault group (λ u. IsGrantedBy group.0 (last_act o h u)) seg fault o h

abbrev pub UnallocAnswer : ℕ → Group → Seg → Result (Unit {0}) CellFault → Origin → List Noted → Option Noted → Type 0
UnallocAnswer lane group seg (Ok _) o h added = Notes lane (Unalloc group seg) added × MayTakeBack o h lane group.0 seg
UnallocAnswer lane group seg (Err fault) o h added = (added ≡ None) × GiveBackFault group (λ u. last_act o h u ≡ granted (Some lane) group.0) seg fault o h

-- what a group gained and gave back in a legal journal, as maximal runs; and the group holds what the one before it held, changed by these runs
pub record IsGathered (group : Group) (allocs frees : List Seg) (o : Origin) (h : List Noted) : Type 0 where
  pub legal : IsLegal o h
  pub gained : AreMaximalRuns (is_gained group.0 h) o.units allocs
  pub given : AreMaximalRuns (is_given group.0 h) o.units frees
  pub holds : (u : ℕ) → u < o.units → held o h group.0 u ≡ (not (covered frees u) && (covered allocs u || held o h (group.0 - 1) u))

-- the buffer has less room than there are runs
pub record IsShort (group : Group) (room need : ℕ) (o : Origin) (h : List Noted) : Type 0 where
  pub runs : need ≡ changed_runs h o.units group.0
  pub short : room < need

abbrev pub CollectAnswer : ℕ → Group → ℕ → List Seg → List Seg → Result (Unit {0}) CellFault → Origin → List Noted → Option Noted → Type 0
CollectAnswer lane group room allocs frees (Ok _) o h added = Notes lane (Collect group) added × IsGathered group allocs frees o h
CollectAnswer lane group room allocs frees (Err (Ms (Short need))) o h added = (added ≡ None) × (IsShort group room need o h × ((allocs ≡ []) × (frees ≡ [])))
CollectAnswer lane group room allocs frees (Err Memory) o h added = (added ≡ None) × ((allocs ≡ []) × (frees ≡ []))
CollectAnswer lane group room allocs frees (Err _) o h added = ⊥

abbrev pub SettleAnswer : ℕ → Group → Origin → List Noted → Option Noted → Type 0
SettleAnswer lane group o h added = Notes lane (Settle group) added × MayDo o h lane (Settle group)

-- it is loaded now, and the segments are what the settled groups hold; it was loaded before, or the note says so
pub record IsLoad (lane : ℕ) (segs : List Seg) (o : Origin) (h : List Noted) (note : Option Noted) : Type 0 where
  pub same : AgreeBelow (covered segs) (held o h (settled_group o h)) o.units
  pub notes : ((is_loaded h ≡ true) × (note ≡ None)) ⊎ ((is_loaded h ≡ false) × Notes lane Load note)

abbrev pub LoadAnswer : {E : Type 0} → ℕ → List Seg → Result (Option ℕ) E → Origin → List Noted → Option Noted → Type 0
LoadAnswer lane segs (Ok None) o h added = IsLoad lane segs o h added
LoadAnswer lane segs (Ok (Some unit)) o h added = (added ≡ None) × (IsLegal o h × IsLowestDifference (covered segs) (held o h (settled_group o h)) o.units unit)
LoadAnswer lane segs (Err _) o h added = added ≡ None

-- the totals and the weight of the journal, and nothing is noted
pub record IsSight (counts : Counts) (weight : ℕ) (loaded : Bool) (o : Origin) (h : List Noted) (note : Option Noted) : Type 0 where
  pub quiet : note ≡ None
  pub live : counts.live ≡ live_units o h
  pub deferred : counts.deferred ≡ deferred_units o h
  pub vacant : counts.vacant ≡ vacant_units o h
  pub weighs : is_loaded h ≡ true → IsWeightOfSet (is_vacant o h) o.units o.ashift weight
  pub weighs_unloaded : is_loaded h ≡ false → IsWeightOfSet (as_one_run o h) o.units o.ashift weight
  pub in_memory : loaded ≡ is_loaded h
