-- Whose note is whose. The keeper's acts are told by their kind: those by which groups pass, and free space comes and goes.
-- They carry the lane that asked for them. All other acts are the lane's own.
use Rattle.std.specs.Prelude.{ℕ, ◌==◌, ◌&&◌, not, Bool, true, false, ⊤, if◌then◌else◌, List}
use Rattle.std.specs.List.{All, filter}
use Rattle.zms_units.specs.Limits.{IsLane}
use Rattle.ms_model.specs.declared.notes.Act.{Act}
use Rattle.ms_model.specs.declared.notes.Act.TheVariants.{Collect, Settle, Load, Unload}
use Rattle.ms_model.specs.declared.notes.Noted.{Noted}
use Rattle.ms_model.specs.declared.notes.GateNote.{GateNote}
use Rattle.ms_model.specs.declared.notes.GateNote.TheVariants.{Closed, Settled}

-- is an act the keeper's?
abbrev pub is_keepers : Act → Bool
is_keepers (Collect _) = true
is_keepers (Settle _) = true
is_keepers Load = true
is_keepers Unload = true
is_keepers _ = false

-- a lane's actions in a journal, in order
abbrev pub lane_part : ℕ → List Noted → List Noted
lane_part lane h = filter (λ note. (lane == note.lane) && not (is_keepers note.act)) h

-- the keeper's actions in a journal, in order
abbrev pub keeper_part : List Noted → List Noted
keeper_part h = filter (λ note. is_keepers note.act) h

-- each note has a lane, the keeper's too
abbrev pub HaveLanes : List Noted → Type 0
HaveLanes h = All (λ note. IsLane note.lane) h

-- the right by which a pass may add a note: 0 for the keeper's acts, and for its own the lane's number
abbrev pub right_of : Noted → ℕ
right_of note = if is_keepers note.act then 0 else note.lane

-- the closings of a lane in the gate's journal, in order, and the settlings, which are the keeper's
abbrev pub closes_for : ℕ → GateNote → Bool
closes_for lane (Closed by _) = lane == by
closes_for lane (Settled _) = false

abbrev pub gate_part : ℕ → List GateNote → List GateNote
gate_part lane g = filter (closes_for lane) g

abbrev pub is_settling : GateNote → Bool
is_settling (Closed _ _) = false
is_settling (Settled _) = true

abbrev pub settlings : List GateNote → List GateNote
settlings g = filter is_settling g

-- each closing has a lane
abbrev pub IsByLane : GateNote → Type 0
IsByLane (Closed lane _) = IsLane lane
IsByLane (Settled _) = ⊤

-- the right by which a pass may add a note of the gate
abbrev pub gate_right : GateNote → ℕ
gate_right (Closed lane _) = lane
gate_right (Settled _) = 0
