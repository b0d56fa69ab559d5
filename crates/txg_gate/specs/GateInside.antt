-- The fields of a gate: what they stand for, and what is true of them.
use Rattle.std.specs.Prelude.{◌≡◌, ℕ, ◌+◌, ◌-◌, ◌/◌, ◌^◌, ◌<◌, ◌≤◌, slice_index, vec_len, vec_capacity}
use Rattle.zms_units.specs.Limits.{GROUPS_END}
use Rattle.ms_model.specs.Gates.{open_group, synced_group, IsGateLegal}
use Rattle.txg_gate.specs.Closings.{AreFew}
use Rattle.txg_gate.specs.GateState.{GateState}
use Rattle.txg_gate.specs.declared.gate.Gate.TheInside.{Inside}

-- the settlings that the closed groups are still to have
abbrev pub owed : Inside → ℕ
owed g = g.open.0 - 1 - g.synced.0

abbrev pub gate_state : Inside → GateState
gate_state g = record {
  opened = g.opened.0;
  notes = g.notes.items;
  counts = g.counts;
  room = (vec_capacity g.notes - (vec_len g.notes + owed g)) / 2;
}

pub record IsGate (g : Inside) : Type 0 where
  pub small : g.opened.0 < GROUPS_END
  pub open_is : g.open.0 ≡ open_group g.opened.0 g.notes.items
  pub synced_is : g.synced.0 ≡ synced_group g.opened.0 g.notes.items
  pub ahead : g.synced.0 < g.open.0
  pub near : g.open.0 ≤ g.synced.0 + 3
  pub low : g.open.0 < 2 ^ 50
  pub legal : IsGateLegal g.opened.0 g.notes.items
  pub few : AreFew g.notes.items
  pub has_room : vec_len g.notes + owed g ≤ vec_capacity g.notes
  -- a group that isn't open yet has no holds
  pub unused : (k : ℕ) → g.open.0 ≤ g.synced.0 + k → slice_index g.counts k ≡ 0
