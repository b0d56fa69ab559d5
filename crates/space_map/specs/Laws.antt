-- What the definitions are to mean: the statements of the laws.
use Rattle.std.specs.Prelude.{◌≡◌, ◌↔◌, Bool, ℕ, ◌<◌, ◌^◌, false, not, if◌then◌else◌, List, [], ◌∷◌, ◌++◌, map}
use Rattle.zms_units.specs.declared.segments.Seg.{Seg}
use Rattle.zms_units.specs.Segments.{covered, AreSegs}
use Rattle.zms_units.specs.declared.faults.MapFault.{MapFault}
use Rattle.sm_entry.specs.declared.SmType.{SmType}
use Rattle.space_map.specs.declared.places.MapKind.{MapKind}
use Rattle.space_map.specs.declared.places.MapKind.TheVariants.{Side as SideMap}
use Rattle.space_map.specs.declared.places.Place.TheVariants.{Side}
use Rattle.space_map.specs.declared.places.Found.{Found}
use Rattle.space_map.specs.Layout.{laid_out, words_of}
use Rattle.space_map.specs.Batches.{condensed, found_as}
use Rattle.space_map.specs.Reading.{Decodes, IsFirstFault}
use Rattle.space_map.specs.Replay.{Replays, is_alloc, is_held, run_covers}

-- words give the same runs whenever they are read
abbrev pub RunsAreCertain : Type 0
RunsAreCertain = (kind : MapKind) (words : List ℕ) (one other : List Found) → Decodes kind words one → Decodes kind words other → one ≡ other

-- and words at fault always have the same first fault
abbrev pub FaultsAreCertain : Type 0
FaultsAreCertain = (kind : MapKind) (words : List ℕ) (one other : MapFault) → IsFirstFault kind words one → IsFirstFault kind words other → one ≡ other

-- words that give runs are not at fault
abbrev pub RunsShowNoFault : Type 0
RunsShowNoFault = (kind : MapKind) (words : List ℕ) (found : List Found) (fault : MapFault) → Decodes kind words found → IsFirstFault kind words fault → ⊥

-- what words say of a unit is what the runs that they give say
abbrev pub ReplayIsOfTheRuns : Type 0
ReplayIsOfTheRuns = (kind : MapKind) (words : List ℕ) (found : List Found) (u : ℕ) (held : Bool) → Decodes kind words found → (Replays kind words u held ↔ (is_held found u ≡ held))

-- without a run no unit is held
abbrev pub NoneIsHeldAtFirst : Type 0
NoneIsHeldAtFirst = (u : ℕ) → is_held [] u ≡ false

-- one run more changes the units that it covers, and no other
abbrev pub LastRunDecides : Type 0
LastRunDecides = (found : List Found) (last : Found) (u : ℕ) → is_held (found ++ last ∷ []) u ≡ (if run_covers u last then is_alloc last.run.kind else is_held found u)

-- and so does a batch
abbrev pub LastBatchDecides : Type 0
LastBatchDecides =
    (found : List Found) (before : ℕ) (kind : SmType) (runs : List Seg) (u : ℕ)
    → is_held (found ++ map (found_as (Side before) kind) runs) u ≡ (if covered runs u then is_alloc kind else is_held found u)

-- a side that is written anew reads as holding exactly the units that no free run covers
pub record HoldsAllButFree (words : List ℕ) (units : ℕ) (free : List Seg) : Type 0 where
  pub found : List Found
  pub decodes : Decodes (SideMap units) words found
  pub held : (u : ℕ) → u < units → is_held found u ≡ not (covered free u)

abbrev pub CondensedHoldsTheRest : Type 0
CondensedHoldsTheRest =
    (group units : ℕ) (free : List Seg) → group < 2 ^ 50 → 0 < units → units < 2 ^ 32 → AreSegs units free
    → HoldsAllButFree (words_of (laid_out 0 (condensed group units free))) units free
