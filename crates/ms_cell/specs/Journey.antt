-- What a holder did in all cells between two moments, and at one of them in one turn.
use Rattle.std.specs.Prelude.{◌≡◌, ℕ, ◌++◌, Bool, true, false, Option, List, [], ◌∷◌, length, Result, Err}
use Rattle.turn_cell.specs.Known.{Known}
use Rattle.turn_cell.specs.Lanes.{Went}
use Rattle.turn_passes.specs.Pairs.{Each}
use Rattle.ms_model.specs.Origin.{Origin}
use Rattle.ms_model.specs.Parts.{right_of, gate_right}
use Rattle.ms_model.specs.Events.{Event, at_gate, at_metaslab, gate_steps, metaslab_steps}
use Rattle.ms_model.specs.declared.notes.Noted.{Noted}
use Rattle.ms_model.specs.declared.notes.GateNote.{GateNote}
use Rattle.ms_core.specs.declared.kept.Standing.{Standing}
use Rattle.ms_cell.specs.declared.answers.CellFault.{CellFault}
use Rattle.ms_cell.specs.declared.answers.CellFault.TheVariants.{Busy}
use Rattle.ms_cell.specs.Turns.{origin_from}
use Rattle.ms_cell.specs.Passes.{Passes, origin_in, tries_in}

-- its passes were p and are q, and it took just these steps, in this order
pub record Journey (right : ℕ) (events : List Event) (p q : Passes) : Type 0 where
  pub gate : Went gate_right right (gate_steps events) p.gate q.gate
  pub count : length q.metaslabs ≡ length p.metaslabs
  pub each : Each (λ k c d. Went right_of right (metaslab_steps k events) c d) p.metaslabs q.metaslabs

-- one turn at the metaslab of a number: the journal that it found, what it noted there, and of both what it answers
pub record Turned (right number : ℕ) (Answer : Origin → List Noted → Option Noted → Type 0) (p q : Passes) : Type 0 where
  pub before : List Noted
  pub note : Option Noted
  pub journey : Journey right (at_metaslab number (record { before = before; note = note }) ∷ []) p q
  pub answer : Answer (origin_in p number) before note

-- one turn at the gate
pub record TurnedGate (right : ℕ) (Answer : List GateNote → Option GateNote → Type 0) (p q : Passes) : Type 0 where
  pub before : List GateNote
  pub note : Option GateNote
  pub journey : Journey right (at_gate (record { before = before; note = note }) ∷ []) p q
  pub answer : Answer before note

-- one turn of a holder, over one pass
pub record TurnedOne (right : ℕ) (Answer : Origin → List Noted → Option Noted → Type 0) (p q : Known Noted Standing) : Type 0 where
  pub before : List Noted
  pub note : Option Noted
  pub went : Went right_of right (record { before = before; note = note } ∷ []) p q
  pub answer : Answer (origin_from p.fixed) before note

module _ {A : Type 0} where
  abbrev pub is_busy : Result A CellFault → Bool
  is_busy (Err Busy) = true
  is_busy _ = false

  -- the lock word that was found: 1 just where the answer is busy
  abbrev pub word_of : Result A CellFault → ℕ
  word_of (Err Busy) = 1
  word_of _ = 0

  -- one try, over one pass: it found the lock taken and did nothing, or it took one turn
  pub record TriedOne (right : ℕ) (result : Result A CellFault) (Answer : Origin → List Noted → Option Noted → Type 0) (p q : Known Noted Standing) : Type 0 where
    pub tries : q.tries ≡ p.tries ++ word_of result ∷ []
    pub busy : is_busy result ≡ true → Went right_of right [] p q
    pub turn : is_busy result ≡ false → TurnedOne right Answer p q

  -- the same, at the metaslab of a number
  pub record Tried (right number : ℕ) (result : Result A CellFault) (Answer : Origin → List Noted → Option Noted → Type 0) (p q : Passes) : Type 0 where
    pub tries : tries_in q number ≡ tries_in p number ++ word_of result ∷ []
    pub busy : is_busy result ≡ true → Journey right [] p q
    pub turn : is_busy result ≡ false → Turned right number Answer p q
