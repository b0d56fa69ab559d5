-- What the gate's journal says: the open group, and the group that was settled last.
use Rattle.std.specs.Prelude.{◌≡◌, ℕ, ◌+◌, ◌<◌, Bool, true, false, ⊤, List, ◌∷◌, ◌++◌}
use Rattle.std.specs.List.{fold, count_by}
use Rattle.ms_model.specs.declared.notes.GateNote.{GateNote}
use Rattle.ms_model.specs.declared.notes.GateNote.TheVariants.{Closed, Settled}

abbrev pub opened_by : ℕ → GateNote → ℕ
opened_by so_far (Closed _ group) = group.0 + 1
opened_by so_far (Settled _) = so_far

-- the open group: one above the group that was closed last, or above the one at which the pool was opened
abbrev pub open_group : ℕ → List GateNote → ℕ
open_group opened h = fold opened_by (opened + 1) h

abbrev pub synced_by : ℕ → GateNote → ℕ
synced_by so_far (Closed _ _) = so_far
synced_by so_far (Settled group) = group.0

-- the group that was settled last, or the one at which the pool was opened
abbrev pub synced_group : ℕ → List GateNote → ℕ
synced_group opened h = fold synced_by opened h

-- a closing is of the open group, at most two above the settled one; a settling is of the next closed group
abbrev pub MayPass : ℕ → List GateNote → GateNote → Type 0
MayPass opened h (Closed _ group) = (group.0 ≡ open_group opened h) × (group.0 < synced_group opened h + 3)
MayPass opened h (Settled group) = (group.0 ≡ synced_group opened h + 1) × (group.0 < open_group opened h)

-- each note of the gate may follow those before it
abbrev pub IsGateLegal : ℕ → List GateNote → Type 0
IsGateLegal opened h = (before : List GateNote) (note : GateNote) (rest : List GateNote) → before ++ (note ∷ rest) ≡ h → MayPass opened before note

abbrev pub is_closing : GateNote → Bool
is_closing (Closed _ _) = true
is_closing (Settled _) = false

-- how many groups a list of notes closes
abbrev pub closings : List GateNote → ℕ
closings notes = count_by is_closing notes

-- the note closes no group from m on
abbrev pub ClosesBelow : ℕ → GateNote → Type 0
ClosesBelow m (Closed _ group) = group.0 < m
ClosesBelow m (Settled _) = ⊤
