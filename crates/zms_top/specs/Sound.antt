-- What a run keeps true between two commands.
use Rattle.std.specs.Prelude.{◌≡◌, ◌≢◌, ◌⊎◌, ℕ, ◌+◌, ◌≤◌, true, false, Option, None, List, [], ◌∷◌, ◌++◌}
use Rattle.std.specs.List.{All}
use Rattle.zms_units.specs.declared.faults.First.{First}
use Rattle.zms_units.specs.declared.places.MsId.{MsId}
use Rattle.ms_model.specs.Origin.{Origin}
use Rattle.ms_model.specs.Units.{held, settled_group, collected_group, is_loaded}
use Rattle.ms_model.specs.Legal.{IsLegal}
use Rattle.ms_model.specs.Steps.{Quiet, Follows}
use Rattle.ms_model.specs.Parts.{right_of, gate_right}
use Rattle.ms_model.specs.Gates.{open_group, synced_group}
use Rattle.ms_model.specs.Events.{Event, gate_steps, metaslab_steps}
use Rattle.ms_model.specs.declared.notes.Act.TheVariants.{Load, Unload}
use Rattle.ms_model.specs.declared.notes.Noted.{Noted}
use Rattle.ms_model.specs.declared.notes.GateNote.{GateNote}
use Rattle.zms_top.specs.Lines.{Shape}

-- the name of a pool's one metaslab
abbrev pub first_id : MsId
first_id = record { vdev = 0; index = 0 }

-- a pool of one metaslab
abbrev pub shape_of : Origin → Shape
shape_of o = record { opened = o.opened; ashift = o.ashift; units = o.units; metaslabs = 1; bases = λ _. o.base }

-- the metaslab's journal is legal, the gate's says the same of groups, and while no fault is kept each group that was
-- collected is settled
pub record IsSound (o : Origin) (h : List Noted) (g : List GateNote) (first : Option First) : Type 0 where
  pub legal : IsLegal o h
  pub kept : All (λ note. note.act ≢ Unload) h
  pub synced : synced_group o.opened g ≡ settled_group o h
  pub next : open_group o.opened g ≡ collected_group o h + 1
  pub behind : collected_group o h ≤ settled_group o h + 1
  pub level : first ≡ None → collected_group o h ≡ settled_group o h

-- the journal grew: each group that was collected holds what it held
pub record Grows (o : Origin) (h j : List Noted) : Type 0 where
  pub collected : collected_group o h ≤ collected_group o j
  pub holds : (t u : ℕ) → t ≤ collected_group o h → held o j t u ≡ held o h t u

-- from h to j, and from g to k, no lane but this one noted anything
pub record OthersRest (lane : ℕ) (h j : List Noted) (g k : List GateNote) : Type 0 where
  pub metaslab : (other : ℕ) → 1 ≤ other → other ≢ lane → Quiet right_of other h j
  pub gate : (other : ℕ) → 1 ≤ other → other ≢ lane → Quiet gate_right other g k

-- what a lane did between two states of the journals, and what the keeper did for it, while the others rested
pub record Tour (lane : ℕ) (es kept : List Event) (h j : List Noted) (g k : List GateNote) : Type 0 where
  pub metaslab : Follows right_of lane h (metaslab_steps 0 es) j
  pub gate : Follows gate_right lane g (gate_steps es) k
  pub keeper : Follows right_of 0 h (metaslab_steps 0 kept) j
  pub keeper_gate : Follows gate_right 0 g (gate_steps kept) k
  pub others : OthersRest lane h j g k

-- free space was brought into memory, or was there already
pub data Loads (lane : ℕ) (h : List Noted) : List Noted → Type 0 where
  loaded : is_loaded h ≡ true → Loads lane h h
  loads : is_loaded h ≡ false → Loads lane h (h ++ (record { lane = lane; act = Load } ∷ []))

-- it was brought there, or nothing was noted
abbrev pub MayLoad : ℕ → List Noted → List Noted → Type 0
MayLoad lane h j = (j ≡ h) ⊎ Loads lane h j
