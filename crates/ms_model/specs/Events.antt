-- What one lane did, in all journals: one list of steps, in the lane's own order.
use Rattle.std.specs.Prelude.{ℕ, ◌==◌, if◌then◌else◌, List, [], ◌∷◌}
use Rattle.ms_model.specs.Steps.{Step}
use Rattle.ms_model.specs.declared.notes.Noted.{Noted}
use Rattle.ms_model.specs.declared.notes.GateNote.{GateNote}

-- a step in the gate's journal, or in that of the metaslab at this place in the pool's order
pub data Event : Type 0 where
  at_gate : Step GateNote → Event
  at_metaslab : ℕ → Step Noted → Event

abbrev pub gate_steps : List Event → List (Step GateNote)
gate_steps [] = []
gate_steps (at_gate s ∷ es) = s ∷ gate_steps es
gate_steps (at_metaslab _ _ ∷ es) = gate_steps es

abbrev pub metaslab_steps : ℕ → List Event → List (Step Noted)
metaslab_steps place [] = []
metaslab_steps place (at_gate _ ∷ es) = metaslab_steps place es
metaslab_steps place (at_metaslab at s ∷ es) = if at == place then s ∷ metaslab_steps place es else metaslab_steps place es
