-- How the copies of a block that gets no further are taken back.
use Rattle.std.specs.Prelude.{◌≡◌, ℕ, ◌+◌, ◌<◌, Option, Some, None, List, [], ◌∷◌, ◌++◌, Ok}
use Rattle.zms_units.specs.declared.segments.Seg.{Seg}
use Rattle.zms_units.specs.declared.segments.Group.{Group}
use Rattle.zms_units.specs.declared.blocks.Dva.{Dva}
use Rattle.zms_units.specs.declared.places.MsId.{MsId}
use Rattle.zms_units.specs.Segments.{end_of, Covers}
use Rattle.vdev_map.specs.Numbers.{number_of}
use Rattle.ms_model.specs.Units.{granted, last_act}
use Rattle.ms_cell.specs.Answers.{UnallocAnswer}
use Rattle.lane_passes.specs.Lanes.{LaneEvent, Ground}
use Rattle.lane_passes.specs.Turns.{AtMetaslab, Then}
use Rattle.pool_alloc.specs.Asks.{dva_of}
use Rattle.pool_alloc.specs.Looks.{IsWeighed, IsLateAt}
use Rattle.pool_alloc.specs.declared.answers.AllocFault.{AllocFault}
use Rattle.pool_alloc.specs.declared.answers.AllocFault.TheVariants.{Late}

-- a segment was taken back
abbrev pub IsTakenAt : ℕ → Group → MsId → Seg → Ground → List LaneEvent → Type 0
IsTakenAt lane of id seg g = AtMetaslab (number_of g.vdevs id) (λ o h note. UnallocAnswer lane of seg (Ok (record {})) o h note) g

-- a unit is the lane's grant of the group no more: another lane freed it
abbrev pub IsGoneAt : ℕ → Group → MsId → ℕ → Ground → List LaneEvent → Type 0
IsGoneAt lane of id unit g = AtMetaslab (number_of g.vdevs id) (λ o h note. (note ≡ None) × (last_act o h unit ≡ granted (Some lane) of.0 → ⊥)) g

-- the units from one up to another were taken back, run by run, and those passed over that another lane freed meanwhile
pub data AreTaken (lane : ℕ) (of : Group) (id : MsId) (from : ℕ) (g : Ground) : ℕ → List LaneEvent → Type 0 where
  none : AreTaken lane of id from g from []
  taken : (at : ℕ) (seg : Seg) (es fs : List LaneEvent) → AreTaken lane of id from g at es → seg.start ≡ at → IsTakenAt lane of id seg g fs → AreTaken lane of id from g (at + seg.count) (es ++ fs)
  gone : (at : ℕ) (es fs : List LaneEvent) → AreTaken lane of id from g at es → IsGoneAt lane of id at g fs → AreTaken lane of id from g (at + 1) (es ++ fs)
  -- a run that had such a unit further on
  refused : (at unit : ℕ) (es fs : List LaneEvent) → AreTaken lane of id from g at es → at < unit → IsGoneAt lane of id unit g fs → AreTaken lane of id from g at (es ++ fs)

-- a segment was taken back whole, and the weight posted
abbrev pub IsUndone : ℕ → Group → MsId → Seg → Ground → List LaneEvent → Type 0
IsUndone lane of id seg = Then (λ g es. AreTaken lane of id seg.start g (end_of seg) es) (IsWeighed lane id)

-- or it stays from a unit on, since the group was collected already
pub record IsLeft (lane : ℕ) (of : Group) (id : MsId) (seg : Seg) (group collected : Group) (g : Ground) (es : List LaneEvent) : Type 0 where
  pub at : ℕ
  pub within : Covers seg at
  pub turns : Then (λ g es. AreTaken lane of id seg.start g at es) (Then (IsLateAt of id group collected) (IsWeighed lane id)) g es

-- the first of some
abbrev pub or_first : {A : Type 0} → Option A → A → Option A
or_first None x = Some x
or_first (Some y) x = Some y

-- copies were taken back in their order: these were left, and this stood in the way of the first of them
pub data AreUndone (lane : ℕ) (of : Group) (g : Ground) : List Dva → List Dva → Option AllocFault → List LaneEvent → Type 0 where
  none : AreUndone lane of g [] [] None []
  undone : (dvas left : List Dva) (late : Option AllocFault) (id : MsId) (seg : Seg) (es fs : List LaneEvent) → AreUndone lane of g dvas left late es → IsUndone lane of id seg g fs
      → AreUndone lane of g (dvas ++ dva_of g.vdevs id seg ∷ []) left late (es ++ fs)
  left : (dvas left : List Dva) (late : Option AllocFault) (id : MsId) (seg : Seg) (group collected : Group) (es fs : List LaneEvent) → AreUndone lane of g dvas left late es
      → IsLeft lane of id seg group collected g fs → AreUndone lane of g (dvas ++ dva_of g.vdevs id seg ∷ []) (left ++ dva_of g.vdevs id seg ∷ []) (or_first late (Late group collected)) (es ++ fs)
