-- What is handed in when cells are made, and what the closed cells have.
use Rattle.std.specs.Prelude.{◌≡◌, ℕ, ◌≤◌, Some, List, length, slice_get}
use Rattle.std.specs.List.{All}
use Rattle.zms_units.specs.declared.segments.Seg.{Seg}
use Rattle.zms_units.specs.declared.places.VdevRow.{VdevRow}
use Rattle.zms_units.specs.declared.places.MsId.{MsId}
use Rattle.zms_units.specs.Segments.{AreSegs}
use Rattle.vdev_map.specs.Numbers.{IsIn, number_of, row_at, metaslabs_in}
use Rattle.turn_cell.specs.Notes.{Ends}
use Rattle.turn_cell.specs.Known.{Known}
use Rattle.turn_cell.specs.declared.kept.TheConstants.{MAX_RIGHT}
use Rattle.turn_passes.specs.Pairs.{Each}
use Rattle.ms_model.specs.Parts.{right_of, gate_right, HaveLanes, IsByLane}
use Rattle.ms_model.specs.Legal.{IsLegal}
use Rattle.ms_model.specs.declared.notes.Noted.{Noted}
use Rattle.ms_model.specs.Gates.{IsGateLegal}
use Rattle.txg_gate.specs.GateState.{GateState}
use Rattle.ms_core.specs.State.{MsState, origin_of}
use Rattle.ms_core.specs.Standing.{standing_of}
use Rattle.ms_core.specs.declared.kept.Standing.{Standing}
use Rattle.ms_cell.specs.Turns.{Turns, StandsAt}
use Rattle.ms_cell.specs.Passes.{Passes}

-- runs for each metaslab, in order, within its units
pub record AreBases (vdevs : List VdevRow) (bases : List (List Seg)) : Type 0 where
  pub count : length bases ≡ metaslabs_in vdevs
  pub each : (id : MsId) (base : List Seg) → IsIn vdevs id → slice_get bases (number_of vdevs id) ≡ Some base → AreSegs (row_at vdevs id.vdev).units base

-- a pass stands for the metaslab of a number, whose base is these runs
pub record StandsBy (vdevs : List VdevRow) (opened number : ℕ) (base : List Seg) (c : Known Noted Standing) : Type 0 where
  pub standing : Standing
  pub is : c.fixed ≡ Some standing
  pub stands : StandsAt vdevs opened number standing
  pub base_is : standing.base ≡ base

-- and these are what the metaslabs stand for
pub record BasesStand (bases : List (List Seg)) (p : Passes) : Type 0 where
  pub each : Each (λ k base c. (s : _) × ((c.fixed ≡ Some s) × (s.base ≡ base))) bases p.metaslabs

-- the journal is legal, and each note carries a lane from 1 to 16
pub record IsLawful (m : MsState) : Type 0 where
  pub legal : IsLegal (origin_of m) m.notes
  pub lanes : HaveLanes m.notes

-- what the turns of closed cells hand back, by the passes that closed them: each journal is legal, needs rights 0 to 16 alone,
-- and has of each right of the passes just the notes that they had; each metaslab is the one that its place stands for
pub record AreClosed (t : Turns) (p : Passes) (gate : GateState) (metaslabs : List MsState) : Type 0 where
  pub count : length metaslabs ≡ length t.metaslabs
  pub passes : length p.metaslabs ≡ length t.metaslabs
  pub opened : gate.opened ≡ t.opened
  pub gate_ends : Ends gate_right p.gate.own p.gate.seen gate.notes
  pub gate_legal : IsGateLegal gate.opened gate.notes
  pub gate_lanes : All IsByLane gate.notes
  pub gate_rights : All (λ n. gate_right n ≤ MAX_RIGHT) gate.notes
  pub ends : Each (λ k c m. Ends right_of c.own c.seen m.notes) p.metaslabs metaslabs
  pub stand : Each (λ k c m. c.fixed ≡ Some (standing_of m)) p.metaslabs metaslabs
  pub known : (k : ℕ) (m : MsState) → slice_get metaslabs k ≡ Some m → StandsAt t.vdevs t.opened k (standing_of m)
  pub lawful : (k : ℕ) (m : MsState) → slice_get metaslabs k ≡ Some m → IsLawful m
  pub rights : (k : ℕ) (m : MsState) → slice_get metaslabs k ≡ Some m → All (λ n. right_of n ≤ MAX_RIGHT) m.notes
