-- What lanes stand on: the statements of the laws.
use Rattle.std.specs.Prelude.{◌≡◌, ℕ, ◌+◌, ◌<◌, Some, List, [], ◌∷◌, ◌++◌, length, slice_get}
use Rattle.std.specs.Option.{option_to_list}
use Rattle.turn_cell.specs.Notes.{IsPrefix, notes_at}
use Rattle.turn_cell.specs.Lanes.{Step, notes_of}
use Rattle.ms_model.specs.declared.journals.ClassJournal.{ClassJournal}
use Rattle.class_model.specs.Replay.{LaneNote}
use Rattle.class_group.specs.Turns.{ClassTurns}
use Rattle.class_group.specs.Passes.{ClassKnown, right_of, seen_in, Seated, AreIdle, AreFresh, AreRests, HaveAll}
use Rattle.class_group.specs.Journey.{ClassStep, steps_at, Journey}
use Rattle.class_group.specs.Closed.{AreClosed}
use Rattle.class_group.specs.Journals.{EachJournal, InJournals, NeedAtMost, GoOn}

-- what one holder does

abbrev pub NoJourney : Type 0
NoJourney = (right : ℕ) (t : ClassTurns) (p : List ClassKnown) → Seated right t p → Journey right [] p p

abbrev pub JourneysJoin : Type 0
JourneysJoin = (right : ℕ) (ss ts : List ClassStep) (p q r : List ClassKnown) → Journey right ss p q → Journey right ts q r → Journey right (ss ++ ts) p r

abbrev pub StepsJoin : Type 0
StepsJoin = (place : ℕ) (ss ts : List ClassStep) → steps_at place (ss ++ ts) ≡ steps_at place ss ++ steps_at place ts

abbrev pub StaysSeated : Type 0
StaysSeated = (right : ℕ) (t : ClassTurns) (ss : List ClassStep) (p q : List ClassKnown) → Seated right t p → Journey right ss p q → Seated right t q

-- what a holder has seen has of its own notes those that it had seen before, and then those of its steps
abbrev pub OwnNotesGrow : Type 0
OwnNotesGrow =
    (right : ℕ) (ss : List ClassStep) (p q : List ClassKnown) → Journey right ss p q → (k : ℕ) → k < length p
    → notes_at right_of right (seen_in q k) ≡ notes_at right_of right (seen_in p k) ++ notes_of (steps_at k ss)

-- passes that come back

abbrev pub FreshAreSeated : Type 0
FreshAreSeated = (right : ℕ) (t : ClassTurns) (p : List ClassKnown) → AreFresh right t p → Seated right t p

abbrev pub SeatedAreIdle : Type 0
SeatedAreIdle = (right : ℕ) (t : ClassTurns) (p : List ClassKnown) → Seated right t p → AreIdle t p

abbrev pub RestsAreIdle : Type 0
RestsAreIdle = (right : ℕ) (t : ClassTurns) (p : List ClassKnown) → AreRests right t p → AreIdle t p

abbrev pub HaveThemselves : Type 0
HaveThemselves = (p : List ClassKnown) → HaveAll p p

abbrev pub HaveAllAlong : Type 0
HaveAllAlong = (t : ClassTurns) (p q r : List ClassKnown) → AreIdle t p → AreIdle t q → HaveAll q p → HaveAll r q → HaveAll r p

-- what the closed journals have

-- the whole journey of a holder, from the passes that were split off to those that were joined
abbrev pub JournalsHaveEachJourney : Type 0
JournalsHaveEachJourney =
    (right : ℕ) (t : ClassTurns) (ss : List ClassStep) (p q last : List ClassKnown) (journals : List ClassJournal)
    → AreFresh right t p → Journey right ss p q → HaveAll last q → AreClosed t last journals → InJournals right ss journals

-- of the rights that nobody was given there is no note
abbrev pub NotesAreOfHolders : Type 0
NotesAreOfHolders =
    (lanes : ℕ) (t : ClassTurns) (rest last : List ClassKnown) (journals : List ClassJournal) → AreRests (lanes + 1) t rest → HaveAll last rest → AreClosed t last journals → NeedAtMost lanes journals

-- whatever a holder saw is so
abbrev pub JournalsGoOn : Type 0
JournalsGoOn = (t : ClassTurns) (p last : List ClassKnown) (journals : List ClassJournal) → AreIdle t p → HaveAll last p → AreClosed t last journals → GoOn p journals

-- what the journals say of a holder's steps

-- its notes are those of its steps, in order
abbrev pub NotesAreSteps : Type 0
NotesAreSteps = (right : ℕ) (ss : List ClassStep) (journals : List ClassJournal) → InJournals right ss journals → EachJournal (λ k j. notes_at right_of right j.notes ≡ notes_of (steps_at k ss)) journals

-- a step's place and its note begin the journal
abbrev pub StepsStand : Type 0
StepsStand =
    (right : ℕ) (ss ts : List ClassStep) (k : ℕ) (s : Step LaneNote) (journals : List ClassJournal) (j : ClassJournal)
    → InJournals right (ss ++ (record { place = k; step = s } ∷ ts)) journals → slice_get journals k ≡ Some j → IsPrefix (s.before ++ option_to_list s.note) j.notes

-- the later of two steps at one class found all that stood at the earlier one, and its note
abbrev pub PlacesNeverFall : Type 0
PlacesNeverFall =
    (right : ℕ) (ss ts us : List ClassStep) (k : ℕ) (r s : Step LaneNote) (journals : List ClassJournal) (j : ClassJournal)
    → InJournals right (ss ++ (record { place = k; step = r } ∷ (ts ++ (record { place = k; step = s } ∷ us)))) journals → slice_get journals k ≡ Some j
    → IsPrefix (r.before ++ option_to_list r.note) s.before
