-- A holder is the one that it was after one turn, and has closed no group but by its own note.
use Rattle.std.proofs.Common.{◌≡◌, ℕ, ◌+◌, ◌≤◌, List, [], ◌∷◌, ◌++◌, length, ap, subst, arith, Option, Result, Ok, Err, OnOk, OnErr, length-append}
use Rattle.std.specs.Option.{option_to_list}
use Rattle.turn_cell.specs.Notes.{notes_at}
use Rattle.zms_units.specs.declared.segments.Group.{Group}
use Rattle.ms_model.specs.Origin.{Origin}
use Rattle.ms_model.specs.Parts.{gate_right}
use Rattle.ms_model.specs.Events.{Event, at_gate, at_metaslab}
use Rattle.ms_model.specs.declared.notes.Noted.{Noted}
use Rattle.ms_model.specs.declared.notes.GateNote.{GateNote}
use Rattle.txg_gate.specs.Closings.{closings_of}
use Rattle.ms_cell.specs.declared.answers.CloseFault.{CloseFault}
use Rattle.ms_cell.specs.declared.answers.CloseFault.TheVariants.{TooMany as Many, Memory}
use Rattle.ms_cell.specs.Turns.{Turns}
use Rattle.ms_cell.specs.Passes.{Passes, Seated}
use Rattle.ms_cell.specs.Journey.{Turned, TurnedGate}
use Rattle.ms_cell.specs.GateAnswers.{CloseAnswer}
use Rattle.ms_cell.proofs.JournalLaws.{stays_seated, own_notes}

module _ (right : ℕ) (p q : Passes) where
  module _ (number : ℕ) (Answer : Origin → List Noted → Option Noted → Type 0) (w : Turned right number Answer p q) where
    abbrev step_at : List Event
    step_at = at_metaslab number (record { before = w.before; note = w.note }) ∷ []

    pub seated_at : (t : Turns) → Seated right t p → Seated right t q
    seated_at t s = stays_seated right t step_at p q s w.journey

    pub closings_at : closings_of right q.gate.seen ≤ closings_of right p.gate.seen
    closings_at = omega (arith, ap length (own_notes right step_at p q w.journey).0, length-append (notes_at gate_right right p.gate.seen) [])

  module _ (Answer : List GateNote → Option GateNote → Type 0) (w : TurnedGate right Answer p q) where
    abbrev step_gate : List Event
    step_gate = at_gate (record { before = w.before; note = w.note }) ∷ []

    pub seated_gate : (t : Turns) → Seated right t p → Seated right t q
    seated_gate t s = stays_seated right t step_gate p q s w.journey

    pub closings_gate : (noted : Option GateNote) → w.note ≡ noted → closings_of right q.gate.seen ≡ closings_of right p.gate.seen + length (option_to_list noted)
    closings_gate noted is =
        let more = option_to_list w.note in
        omega (
          arith,
          ap length (own_notes right step_gate p q w.journey).0,
          length-append (notes_at gate_right right p.gate.seen) (more ++ []),
          length-append more [],
          ap (λ (n : Option GateNote). length (option_to_list n)) is,
        )

pub closed_one : (lane opened : ℕ) (group : Group) (p q : Passes) → TurnedGate lane (CloseAnswer opened lane (Ok group)) p q → closings_of lane q.gate.seen ≤ closings_of lane p.gate.seen + 1
closed_one lane opened group p q w = omega (arith, closings_gate lane p q _ w _ w.answer.0)

pub closed_none : (lane opened : ℕ) (fault : CloseFault) (p q : Passes) → TurnedGate lane (CloseAnswer opened lane (Err fault)) p q → closings_of lane q.gate.seen ≤ closings_of lane p.gate.seen
closed_none lane opened (Many many) p q w = omega (arith, closings_gate lane p q _ w _ w.answer.0)
closed_none lane opened Memory p q w = omega (arith, closings_gate lane p q _ w _ w.answer)

-- a turn at a number that is another
pub turned_to : (right given number : ℕ) (Answer : Origin → List Noted → Option Noted → Type 0) (p q : Passes) → given ≡ number → Turned right given Answer p q → Turned right number Answer p q
turned_to right given number Answer p q same w = subst (λ (k : ℕ). Turned right k Answer p q) same w

pub closed_by : (lane opened : ℕ) (result : Result Group CloseFault) (p q : Passes) → TurnedGate lane (CloseAnswer opened lane result) p q
    → OnOk result (closings_of lane q.gate.seen ≤ closings_of lane p.gate.seen + 1) × OnErr result (closings_of lane q.gate.seen ≤ closings_of lane p.gate.seen)
closed_by lane opened (Ok group) p q w = (closed_one lane opened group p q w, tt)
closed_by lane opened (Err fault) p q w = (tt, closed_none lane opened fault p q w)
