-- The gate as contracts see it.
use Rattle.std.specs.Prelude.{◌≡◌, ℕ, ◌+◌, ◌-◌, ◌<◌, ◌≤◌, nat_le, if◌then◌else◌, List, slice_index}
use Rattle.ms_model.specs.Gates as gates
use Rattle.ms_model.specs.declared.notes.GateNote.{GateNote}

pub record GateState : Type 0 where
  -- the group at which the pool was opened
  pub opened : ℕ
  -- the journal
  pub notes : List GateNote
  -- the counts of holds of the groups above the settled one
  pub counts : List ℕ
  -- for how many closings memory is taken
  pub room : ℕ

abbrev pub open_of : GateState → ℕ
open_of g = gates.open_group g.opened g.notes

abbrev pub synced_of : GateState → ℕ
synced_of g = gates.synced_group g.opened g.notes

-- how many holds a group has, of which a settled group has none
abbrev pub holds_of : GateState → ℕ → ℕ
holds_of g group = if nat_le group (synced_of g) then 0 else slice_index g.counts (group - (synced_of g + 1))

-- the group is closed, and neither it nor an earlier one has a hold
abbrev pub IsQuiesced : GateState → ℕ → Type 0
IsQuiesced g group = (group < open_of g) × ((k : ℕ) → k ≤ group → holds_of g k ≡ 0)
