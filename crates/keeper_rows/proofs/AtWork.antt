-- A lane is still at work after each of its calls.
use Rattle.std.proofs.Common.{◌≡◌, ℕ, ◌+◌, ◌≤◌, List, [], ap, arith, length, Option, None, Result, Ok, Err}
use Rattle.std.specs.Option.{option_to_list}
use Rattle.zms_units.specs.declared.segments.Group.{Group}
use Rattle.ms_model.specs.Origin.{Origin}
use Rattle.ms_model.specs.declared.notes.Noted.{Noted}
use Rattle.ms_model.specs.declared.notes.GateNote.{GateNote}
use Rattle.ms_cell.specs.declared.answers.CloseFault.{CloseFault}
use Rattle.ms_cell.specs.declared.answers.CloseFault.TheVariants.{TooMany as Many, Memory}
use Rattle.ms_cell.specs.Turns.{Turns}
use Rattle.ms_cell.specs.Passes.{Passes}
use Rattle.ms_cell.specs.Journey.{Journey as CellJourney, Turned, TurnedGate}
use Rattle.ms_cell.specs.GateAnswers.{CloseAnswer}
use Rattle.class_group.specs.Turns.{ClassTurns}
use Rattle.lane_passes.specs.Lanes.{LaneEvent, Ground, Acted}
use Rattle.lane_passes.specs.declared.passes.LanePasses.{LanePasses}
use Rattle.lane_passes.proofs.Acting.{acted_seated, at_gate_acted, at_metaslab_acted, cells_went}
use Rattle.pool_keeper.specs.Serving.{Serves, Follows}
use Rattle.pool_keeper.specs.ServingLaws.{serves_along}
use Rattle.pool_keeper.specs.Syncs.{SyncDid}
use Rattle.pool_keeper.specs.declared.faults.SyncFault.{SyncFault}
use Rattle.pool_keeper.specs.declared.lane_keeper.LaneKeeper.{LaneKeeper}
use Rattle.keeper_rows.specs.AtWork.{IsAtWork}
use Rattle.keeper_rows.proofs.Closings.{added, gate_adds, metaslab_adds, sync_adds, closings_after}

module _ {D R : Type 0} (t : Turns) (c : ClassTurns) (few : ℕ) (k : LaneKeeper D R) (p : LanePasses R) (w : IsAtWork t c few k p) where
  -- after acts that close at most so many groups
  works_acted : (Fact : Ground → List LaneEvent → Type 0) (j : LaneKeeper D R) (q : LanePasses R) (all : ℕ) (acted : Acted t Fact p q) → Serves j q.lane t → few + added acted.events ≤ all → IsAtWork t c all j q
  works_acted Fact j q all acted serves close = record {
    seated = acted_seated t c Fact p q w.seated acted;
    serves = serves;
    closings = omega (arith, closings_after acted.events p q acted.journey, close, w.closings);
  }

  pub works_at : (number : ℕ) (Answer : Origin → List Noted → Option Noted → Type 0) (q : Passes) → Turned p.lane number Answer p.cells q → IsAtWork t c few k (record p { cells = q })
  works_at number Answer q turn =
      let acted = at_metaslab_acted t c p w.seated number Answer q turn in
      works_acted _ k (record p { cells = q }) few acted w.serves (omega (arith, metaslab_adds number Answer _ acted.events acted.fact))

  gate_acted : (Answer : List GateNote → Option GateNote → Type 0) (q : Passes) (given : Option GateNote) (all : ℕ) → ((h : List GateNote) (n : Option GateNote) → Answer h n → n ≡ given) → few + length (option_to_list given) ≤ all
      → TurnedGate p.lane Answer p.cells q → IsAtWork t c all k (record p { cells = q })
  gate_acted Answer q given all noted close turn =
      let acted = at_gate_acted t c p w.seated Answer q turn in
      works_acted _ k (record p { cells = q }) all acted w.serves (omega (arith, close, gate_adds Answer given _ acted.events acted.fact (noted _ _ acted.fact.answer)))

  pub works_gate : (Answer : List GateNote → Option GateNote → Type 0) (q : Passes) → ((h : List GateNote) (n : Option GateNote) → Answer h n → n ≡ None) → TurnedGate p.lane Answer p.cells q → IsAtWork t c few k (record p { cells = q })
  works_gate Answer q none turn = gate_acted Answer q None few none (omega arith) turn

  pub works_closed : (result : Result Group CloseFault) (q : Passes) → TurnedGate p.lane (CloseAnswer t.opened p.lane result) p.cells q → IsAtWork t c (few + 1) k (record p { cells = q })
  works_closed (Ok group) q turn = gate_acted _ q _ (few + 1) (λ h n a. a.0) (omega arith) turn
  works_closed (Err (Many many)) q turn = gate_acted _ q None (few + 1) (λ h n a. a.0) (omega arith) turn
  works_closed (Err Memory) q turn = gate_acted _ q None (few + 1) (λ h n a. a) (omega arith) turn

  pub works_loaded : (j : LaneKeeper D R) (q : Passes) → CellJourney p.lane [] p.cells q → Follows k j → IsAtWork t c few j (record p { cells = q })
  works_loaded j q journey along =
      let acted = cells_went t c p w.seated q journey in
      works_acted _ j (record p { cells = q }) few acted (serves_along k j p.lane t w.serves along) (omega (arith, ap added acted.fact))

  pub works_synced : (result : Result Group SyncFault) (j : LaneKeeper D R) (q : LanePasses R) → SyncDid t p.lane result p q k j → Serves j q.lane t → IsAtWork t c (few + 1) j q
  works_synced result j q did serves = works_acted _ j q (few + 1) did.acted serves (omega (arith, sync_adds p.lane _ result did.acted.events did.steps did.acted.fact))
