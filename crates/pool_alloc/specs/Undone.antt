-- How the parts of a taking back end.
use Rattle.std.specs.Prelude.{◌≡◌, ℕ, Option, Some, None, List, [], ◌∷◌, ◌++◌, Result, Ok, Err}
use Rattle.zms_units.specs.declared.segments.Seg.{Seg}
use Rattle.zms_units.specs.declared.segments.Group.{Group}
use Rattle.zms_units.specs.declared.blocks.Dva.{Dva}
use Rattle.zms_units.specs.declared.places.MsId.{MsId}
use Rattle.zms_units.specs.Segments.{end_of, Covers}
use Rattle.lane_passes.specs.Lanes.{LaneEvent, Ground}
use Rattle.lane_passes.specs.Turns.{Then}
use Rattle.pool_alloc.specs.Looks.{IsLateAt}
use Rattle.pool_alloc.specs.Undoing.{AreTaken, IsUndone, IsLeft, AreUndone}
use Rattle.pool_alloc.specs.Allocs.{GrantNothing, answer_after}
use Rattle.pool_alloc.specs.declared.answers.AllocFault.{AllocFault}
use Rattle.pool_alloc.specs.declared.answers.AllocFault.TheVariants.{Late as LateFault, Memory}
use Rattle.pool_alloc.specs.declared.undoing.Late.{Late}

-- a segment up to its end, or to where the group was collected already; or memory ran out
abbrev pub TakenLine : {E : Type 0} → ℕ → Group → MsId → Seg → Result (Option Late) E → Ground → List LaneEvent → Type 0
TakenLine lane group id seg (Ok None) g es = AreTaken lane group id seg.start g (end_of seg) es
TakenLine lane group id seg (Ok (Some late)) g es =
    (at : ℕ) × (Covers seg at × Then (λ g es. AreTaken lane group id seg.start g at es) (IsLateAt group id late.group late.collected) g es)
TakenLine lane group id seg (Err _) g es = GrantNothing g es

-- a copy, with its metaslab's weight posted
abbrev pub CopyUndone : {E : Type 0} → ℕ → Group → MsId → Seg → Result (Option Late) E → Ground → List LaneEvent → Type 0
CopyUndone lane group id seg (Ok None) g es = IsUndone lane group id seg g es
CopyUndone lane group id seg (Ok (Some late)) g es = IsLeft lane group id seg late.group late.collected g es
CopyUndone lane group id seg (Err _) g es = GrantNothing g es

abbrev pub late_of : Option Late → Option AllocFault
late_of None = None
late_of (Some late) = Some (LateFault late.group late.collected)

-- the copies that were left, with one more where it stays
abbrev pub left_with : Option Late → Dva → List Dva → List Dva
left_with None dva left = left
left_with (Some late) dva left = left ++ dva ∷ []

-- all copies were taken back or left, and this is the answer
pub record AreAllUndone (lane : ℕ) (group : Group) (dvas : List Dva) (refusal fault : AllocFault) (g : Ground) (es : List LaneEvent) : Type 0 where
  pub left : List Dva
  pub late : Option AllocFault
  pub answer : fault ≡ answer_after refusal late
  pub undone : AreUndone lane group g dvas left late es

-- memory ran out behind some of them
pub record AreSomeUndone (lane : ℕ) (group : Group) (dvas kept : List Dva) (g : Ground) (es : List LaneEvent) : Type 0 where
  pub done : List Dva
  pub rest : List Dva
  pub left : List Dva
  pub late : Option AllocFault
  pub dvas_are : dvas ≡ done ++ rest
  pub kept_is : kept ≡ left ++ rest
  pub turns : Then (λ g es. AreUndone lane group g done left late es) GrantNothing g es

-- a refusal is none for want of memory
abbrev pub HadMemory : AllocFault → Type 0
HadMemory (Memory _) = ⊥
HadMemory _ = Unit {0}

-- so want of memory is one of the taking back
abbrev pub CopiesUndone : ℕ → Group → List Dva → AllocFault → AllocFault → Ground → List LaneEvent → Type 0
CopiesUndone lane group dvas refusal (Memory kept) g es = AreSomeUndone lane group dvas kept g es
CopiesUndone lane group dvas refusal fault g es = AreAllUndone lane group dvas refusal fault g es
