-- What a holder did in all classes between two moments, and at one of them in one turn.
use Rattle.std.specs.Prelude.{◌≡◌, ℕ, ◌==◌, if◌then◌else◌, Option, List, [], ◌∷◌, length}
use Rattle.turn_cell.specs.Lanes.{Step, Went}
use Rattle.turn_passes.specs.Pairs.{Each}
use Rattle.class_model.specs.Replay.{LaneNote}
use Rattle.class_core.specs.Classes.{ClassState}
use Rattle.class_group.specs.Turns.{origin_from}
use Rattle.class_group.specs.Passes.{ClassKnown, right_of, origin_in}

-- a step in the journal of the class at a place
pub record ClassStep : Type 0 where
  pub place : ℕ
  pub step : Step LaneNote

-- those in one of the journals, in order
abbrev pub steps_at : ℕ → List ClassStep → List (Step LaneNote)
steps_at place [] = []
steps_at place (s ∷ steps) = if s.place == place then s.step ∷ steps_at place steps else steps_at place steps

-- the holder's passes were p and are q, and it took just these steps, in this order
pub record Journey (right : ℕ) (steps : List ClassStep) (p q : List ClassKnown) : Type 0 where
  pub count : length q ≡ length p
  pub each : Each (λ k c d. Went right_of right (steps_at k steps) c d) p q

-- one turn at the class of a place: the journal that it found, what it noted there, and of both what it answers
pub record Turned (right place : ℕ) (Answer : ClassState → Option LaneNote → Type 0) (p q : List ClassKnown) : Type 0 where
  pub before : List LaneNote
  pub note : Option LaneNote
  pub journey : Journey right (record { place = place; step = record { before = before; note = note } } ∷ []) p q
  pub answer : Answer (record { origin = origin_in p place; notes = before }) note

-- one turn of a holder, over one pass
pub record TurnedOne (right : ℕ) (Answer : ClassState → Option LaneNote → Type 0) (p q : ClassKnown) : Type 0 where
  pub before : List LaneNote
  pub note : Option LaneNote
  pub went : Went right_of right (record { before = before; note = note } ∷ []) p q
  pub answer : Answer (record { origin = origin_from p.fixed; notes = before }) note
