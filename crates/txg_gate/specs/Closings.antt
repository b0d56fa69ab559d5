-- How often each lane may close a group, so that groups stay small.
use Rattle.std.specs.Prelude.{ℕ, ◌≤◌, List, length}
use Rattle.zms_units.specs.Limits.{MAX_COMMANDS}
use Rattle.std.specs.List.{All}
use Rattle.ms_model.specs.Parts.{IsByLane, gate_right}
use Rattle.ms_model.specs.Steps.{notes_at}
use Rattle.ms_model.specs.declared.notes.GateNote.{GateNote}

-- how many groups a lane closed
abbrev pub closings_of : ℕ → List GateNote → ℕ
closings_of lane h = length (notes_at gate_right lane h)

-- the lanes are 1 to 16, and none closed more than 200,000 groups
pub record AreFew (h : List GateNote) : Type 0 where
  pub lanes : All IsByLane h
  pub few : (lane : ℕ) → 1 ≤ lane → closings_of lane h ≤ MAX_COMMANDS
