-- What an allocation answers, by what the lane did.
use Rattle.std.specs.Prelude.{◌≡◌, ℕ, ◌<◌, ◌≤◌, ◌⊎◌, Bool, true, false, Option, Some, None, List, [], ◌∷◌, ◌++◌, length, Result, Ok, Err}
use Rattle.std.specs.List.{All}
use Rattle.zms_units.specs.Limits.{IsBlockSize, MAX_BLOCK_SIZE}
use Rattle.zms_units.specs.declared.segments.Seg.{Seg}
use Rattle.zms_units.specs.declared.segments.Group.{Group}
use Rattle.zms_units.specs.declared.blocks.Dva.{Dva}
use Rattle.zms_units.specs.declared.blocks.Block.{Block}
use Rattle.zms_units.specs.declared.places.MsId.{MsId}
use Rattle.zms_units.specs.declared.places.Class.{Class}
use Rattle.ms_model.specs.Gates.{open_group}
use Rattle.ms_model.specs.Events.{at_gate, at_metaslab}
use Rattle.ms_model.specs.declared.notes.Act.{Act}
use Rattle.ms_model.specs.declared.notes.Act.TheVariants.{Grant}
use Rattle.ms_model.specs.declared.notes.Noted.{Noted}
use Rattle.ms_model.specs.declared.notes.Kind.{Kind}
use Rattle.copy_walk.specs.Plans.{Plan}
use Rattle.copy_walk.specs.Steps.{Step}
use Rattle.lane_passes.specs.Lanes.{LaneEvent, at_cell, at_class, Ground}
use Rattle.lane_passes.specs.Turns.{AtGate, Nothing, Then}
use Rattle.pool_alloc.specs.Asks.{Ask, kind_of, dva_of, AreUnitsOn}
use Rattle.pool_alloc.specs.Looks.{IsGrantAt, IsUnloadedAt, IsLateAt}
use Rattle.pool_alloc.specs.Walks.{Walks, IsLookedAt}
use Rattle.pool_alloc.specs.Places.{IsOnEither, IsNowhere, ArePlaced}
use Rattle.pool_alloc.specs.Undoing.{AreUndone}
use Rattle.pool_alloc.specs.declared.answers.AllocFault.{AllocFault}
use Rattle.pool_alloc.specs.declared.answers.AllocFault.TheVariants.{BadSize, BadCopies, NoSpace, Late, Device, Damaged, Suspended, Memory}

-- the lane held the open group, acted, and gave the hold back
abbrev pub Holding : Group → (Ground → List LaneEvent → Type 0) → Ground → List LaneEvent → Type 0
Holding group Inner = Then (λ g. AtGate (λ h note. (note ≡ None) × (group.0 ≡ open_group g.opened h)) g) (Then Inner (AtGate (λ h note. note ≡ None)))

-- a number of copies that a block may have
abbrev pub IsCopyCount : ℕ → Type 0
IsCopyCount copies = (1 ≤ copies) × (copies ≤ 3)

-- is a step a grant?
abbrev pub is_grant : Act → Bool
is_grant (Grant _ _) = true
is_grant _ = false

abbrev pub notes_grant : Option Noted → Bool
notes_grant None = false
notes_grant (Some n) = is_grant n.act

abbrev pub grants : LaneEvent → Bool
grants (at_cell (at_metaslab _ s)) = notes_grant s.note
grants (at_cell (at_gate _)) = false
grants (at_class _) = false

abbrev pub GrantNothing : Ground → List LaneEvent → Type 0
GrantNothing g es = All (λ e. grants e ≡ false) es

-- where the next copy was refused
abbrev pub IsCutAt : Ask → Class → List Dva → (MsId → Ground → List LaneEvent → Type 0) → Ground → List LaneEvent → Type 0
IsCutAt a class earlier Last g es = (id : MsId) × IsOnEither a earlier class (λ p. IsLookedAt a (kind_of earlier) p id (Last id)) g es

-- why the next copy was refused: it has no place, or the walk came to a look that did not go on
abbrev pub IsRefused : Ask → Class → List Dva → AllocFault → Ground → List LaneEvent → Type 0
IsRefused a class earlier (NoSpace looked) g es = IsNowhere a class earlier g es looked
IsRefused a class earlier (Late group collected) g es = IsCutAt a class earlier (λ id. IsLateAt a.group id group collected) g es
IsRefused a class earlier (Device _ _) g es = IsCutAt a class earlier (λ id. IsUnloadedAt a.group id) g es
IsRefused a class earlier (Damaged _ _) g es = IsCutAt a class earlier (λ id. IsUnloadedAt a.group id) g es
IsRefused a class earlier (Suspended _) g es = IsCutAt a class earlier (λ id. IsUnloadedAt a.group id) g es
IsRefused a class earlier _ g es = ⊥

-- where no space is found, and then a copy cannot be taken back, the latter is told
abbrev pub answer_after : AllocFault → Option AllocFault → AllocFault
answer_after (NoSpace _) (Some late) = late
answer_after refusal _ = refusal

-- fewer copies than asked were placed, the next one was refused, and these were taken back
pub record IsRefusal (a : Ask) (copies : ℕ) (class : Class) (fault : AllocFault) (g : Ground) (es : List LaneEvent) : Type 0 where
  pub dvas : List Dva
  pub left : List Dva
  pub refusal : AllocFault
  pub late : Option AllocFault
  pub few : length dvas < copies
  pub answer : fault ≡ answer_after refusal late
  pub turns : Then (λ g es. ArePlaced a class g dvas es) (Then (IsRefused a class dvas refusal) (λ g es. AreUndone a.lane a.group g dvas left late es)) g es

-- memory ran out at a step of the walk, of which nothing was granted
pub record IsBroken (a : Ask) (kind : Kind) (p : Plan) (g : Ground) (es : List LaneEvent) : Type 0 where
  pub steps : List Step
  pub turns : Then (λ g es. Walks a kind p g steps es) (λ g es. GrantNothing g es × (length es ≤ 3)) g es

-- the copy was granted, and not posted to its class
pub record IsUnposted (a : Ask) (id : MsId) (seg : Seg) (g : Ground) (es : List LaneEvent) : Type 0 where
  pub count : ℕ
  pub units : AreUnitsOn g.vdevs id.vdev a.size count
  pub turns : Then (IsGrantAt a id count seg) (λ g es. GrantNothing g es × (length es ≤ 2)) g es

-- memory ran out, and these copies stay granted
pub data RanOut (a : Ask) (class : Class) (g : Ground) : List Dva → List LaneEvent → Type 0 where
  placing : (dvas : List Dva) (es : List LaneEvent) → Then (λ g es. ArePlaced a class g dvas es) (IsOnEither a dvas class (IsBroken a (kind_of dvas))) g es → RanOut a class g dvas es
  posting : (dvas : List Dva) (id : MsId) (seg : Seg) (es : List LaneEvent)
      → Then (λ g es. ArePlaced a class g dvas es) (IsOnEither a dvas class (λ p. IsLookedAt a (kind_of dvas) p id (IsUnposted a id seg))) g es → RanOut a class g (dvas ++ dva_of g.vdevs id seg ∷ []) es
  undoing : (done rest left : List Dva) (refusal : AllocFault) (late : Option AllocFault) (es : List LaneEvent)
      → Then (λ g es. ArePlaced a class g (done ++ rest) es) (Then (IsRefused a class (done ++ rest) refusal) (Then (λ g es. AreUndone a.lane a.group g done left late es) GrantNothing)) g es
      → RanOut a class g (left ++ rest) es

-- what was done while the group was held
abbrev pub InnerLine : Ask → Class → ℕ → Result Block AllocFault → Ground → List LaneEvent → Type 0
InnerLine a class copies (Ok block) g es = (block.group ≡ a.group) × ((length block.copies ≡ copies) × ArePlaced a class g block.copies es)
InnerLine a class copies (Err (Memory kept)) g es = RanOut a class g kept es
InnerLine a class copies (Err fault) g es = IsRefusal a copies class fault g es

-- the size and the number of copies are a block's, and the open group was held meanwhile
pub record IsTried (lane size copies : ℕ) (class : Class) (result : Result Block AllocFault) (g : Ground) (es : List LaneEvent) : Type 0 where
  pub size_is : IsBlockSize size
  pub copies_are : IsCopyCount copies
  pub group : Group
  pub turns : Holding group (InnerLine (record { lane = lane; group = group; size = size }) class copies result) g es

abbrev pub AllocLine : ℕ → ℕ → Class → ℕ → Result Block AllocFault → Ground → List LaneEvent → Type 0
AllocLine lane size class copies (Err BadSize) g es = ((size ≡ 0) ⊎ (MAX_BLOCK_SIZE < size)) × Nothing g es
AllocLine lane size class copies (Err BadCopies) g es = IsBlockSize size × (((copies ≡ 0) ⊎ (3 < copies)) × Nothing g es)
AllocLine lane size class copies result g es = IsTried lane size copies class result g es
