-- What the journals of closed cells say of one holder, and of all.
use Rattle.std.specs.Prelude.{◌≡◌, ℕ, ◌≤◌, Some, List, [], slice_get}
use Rattle.std.specs.List.{All}
use Rattle.turn_cell.specs.Notes.{IsPrefix}
use Rattle.turn_cell.specs.Lanes.{Follows}
use Rattle.ms_model.specs.Parts.{right_of, gate_right}
use Rattle.ms_model.specs.Events.{Event, gate_steps, metaslab_steps}
use Rattle.txg_gate.specs.GateState.{GateState}
use Rattle.ms_core.specs.State.{MsState}
use Rattle.ms_cell.specs.Passes.{Passes, seen_in}

-- all that the holder of a right did is these steps, in this order: each note that needs the right is that of a step, and stands
-- where the step found the journal
pub record InJournals (right : ℕ) (events : List Event) (g : GateState) (metaslabs : List MsState) : Type 0 where
  pub gate : Follows gate_right right [] (gate_steps events) g.notes
  pub each : (k : ℕ) (m : MsState) → slice_get metaslabs k ≡ Some m → Follows right_of right [] (metaslab_steps k events) m.notes

-- no note needs a right above this one
pub record NeedAtMost (most : ℕ) (g : GateState) (metaslabs : List MsState) : Type 0 where
  pub gate : All (λ n. gate_right n ≤ most) g.notes
  pub each : (k : ℕ) (m : MsState) → slice_get metaslabs k ≡ Some m → All (λ n. right_of n ≤ most) m.notes

-- each journal begins with what passes had seen of it
pub record GoOn (p : Passes) (g : GateState) (metaslabs : List MsState) : Type 0 where
  pub gate : IsPrefix p.gate.seen g.notes
  pub each : (k : ℕ) (m : MsState) → slice_get metaslabs k ≡ Some m → IsPrefix (seen_in p k) m.notes
