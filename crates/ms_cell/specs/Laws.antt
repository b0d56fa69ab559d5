-- What lanes stand on: the statements of the laws.
use Rattle.std.specs.Prelude.{◌≡◌, ℕ, ◌+◌, ◌<◌, ◌≤◌, Some, List, [], ◌∷◌, ◌++◌, length, slice_get}
use Rattle.std.specs.List.{fold}
use Rattle.std.specs.Option.{option_to_list}
use Rattle.turn_cell.specs.Notes.{IsPrefix, notes_at}
use Rattle.turn_cell.specs.Lanes.{Step, noting, notes_of}
use Rattle.zms_units.specs.declared.segments.Group.{Group}
use Rattle.ms_model.specs.Parts.{right_of, gate_right, lane_part, keeper_part, gate_part, settlings}
use Rattle.ms_model.specs.Gates.{IsGateLegal, open_group, synced_by, synced_group, closings}
use Rattle.ms_model.specs.Units.{collected_by, collected_group, settled_by, settled_group}
use Rattle.ms_model.specs.Events.{Event, at_gate, at_metaslab, gate_steps, metaslab_steps}
use Rattle.ms_model.specs.declared.notes.Act.TheVariants.{Settle}
use Rattle.ms_model.specs.declared.notes.Noted.{Noted}
use Rattle.ms_model.specs.declared.notes.GateNote.{GateNote}
use Rattle.ms_model.specs.declared.notes.GateNote.TheVariants.{Settled}
use Rattle.txg_gate.specs.GateState.{GateState}
use Rattle.ms_core.specs.State.{MsState, origin_of}
use Rattle.ms_cell.specs.Turns.{Turns}
use Rattle.ms_cell.specs.Passes.{Passes, Seated, AreIdle, AreFresh, AreRests, HaveAll, origin_in, seen_in}
use Rattle.ms_cell.specs.Journey.{Journey}
use Rattle.ms_cell.specs.Closed.{AreClosed}
use Rattle.ms_cell.specs.Journals.{InJournals, NeedAtMost, GoOn}

-- what one holder does

abbrev pub NoJourney : Type 0
NoJourney = (right : ℕ) (t : Turns) (p : Passes) → Seated right t p → Journey right [] p p

abbrev pub JourneysJoin : Type 0
JourneysJoin = (right : ℕ) (es fs : List Event) (p q r : Passes) → Journey right es p q → Journey right fs q r → Journey right (es ++ fs) p r

abbrev pub StepsJoin : Type 0
StepsJoin = (es fs : List Event) → (gate_steps (es ++ fs) ≡ gate_steps es ++ gate_steps fs) × ((k : ℕ) → metaslab_steps k (es ++ fs) ≡ metaslab_steps k es ++ metaslab_steps k fs)

abbrev pub StaysSeated : Type 0
StaysSeated = (right : ℕ) (t : Turns) (es : List Event) (p q : Passes) → Seated right t p → Journey right es p q → Seated right t q

-- what a holder has seen has of its own notes those that it had seen before, and then those of its steps
abbrev pub OwnNotesGrow : Type 0
OwnNotesGrow =
    (right : ℕ) (es : List Event) (p q : Passes) → Journey right es p q
    → (notes_at gate_right right q.gate.seen ≡ notes_at gate_right right p.gate.seen ++ notes_of (gate_steps es))
    × ((k : ℕ) → k < length p.metaslabs → notes_at right_of right (seen_in q k) ≡ notes_at right_of right (seen_in p k) ++ notes_of (metaslab_steps k es))

-- so the keeper knows which groups are collected and settled
abbrev pub KeeperKnowsGroups : Type 0
KeeperKnowsGroups =
    (es : List Event) (p q : Passes) (k : ℕ) → Journey 0 es p q → k < length p.metaslabs
    → (collected_group (origin_in q k) (seen_in q k) ≡ fold (λ x (n : Noted). collected_by x n.act) (collected_group (origin_in p k) (seen_in p k)) (notes_of (metaslab_steps k es)))
    × (settled_group (origin_in q k) (seen_in q k) ≡ fold (λ x (n : Noted). settled_by x n.act) (settled_group (origin_in p k) (seen_in p k)) (notes_of (metaslab_steps k es)))

abbrev pub KeeperKnowsGate : Type 0
KeeperKnowsGate =
    (opened : ℕ) (es : List Event) (p q : Passes) → Journey 0 es p q → synced_group opened q.gate.seen ≡ fold synced_by (synced_group opened p.gate.seen) (notes_of (gate_steps es))

-- passes that come back

abbrev pub FreshAreSeated : Type 0
FreshAreSeated = (right : ℕ) (t : Turns) (p : Passes) → AreFresh right t p → Seated right t p

abbrev pub SeatedAreIdle : Type 0
SeatedAreIdle = (right : ℕ) (t : Turns) (p : Passes) → Seated right t p → AreIdle t p

abbrev pub RestsAreIdle : Type 0
RestsAreIdle = (right : ℕ) (t : Turns) (p : Passes) → AreRests right t p → AreIdle t p

abbrev pub HaveThemselves : Type 0
HaveThemselves = (p : Passes) → HaveAll p p

abbrev pub HaveAllAlong : Type 0
HaveAllAlong = (t : Turns) (p q r : Passes) → AreIdle t p → AreIdle t q → HaveAll q p → HaveAll r q → HaveAll r p

-- what the closed journals have

-- the whole journey of a holder, from the passes that were split off to those that were joined
abbrev pub JournalsHaveEachJourney : Type 0
JournalsHaveEachJourney =
    (right : ℕ) (t : Turns) (events : List Event) (p q last : Passes) (g : GateState) (metaslabs : List MsState)
    → AreFresh right t p → Journey right events p q → HaveAll last q → AreClosed t last g metaslabs → InJournals right events g metaslabs

-- of the rights that nobody was given there is no note
abbrev pub NotesAreOfHolders : Type 0
NotesAreOfHolders =
    (lanes : ℕ) (t : Turns) (rest last : Passes) (g : GateState) (metaslabs : List MsState)
    → AreRests (lanes + 1) t rest → HaveAll last rest → AreClosed t last g metaslabs → NeedAtMost lanes g metaslabs

-- whatever a holder saw is so
abbrev pub JournalsGoOn : Type 0
JournalsGoOn =
    (t : Turns) (p last : Passes) (g : GateState) (metaslabs : List MsState) → AreIdle t p → HaveAll last p → AreClosed t last g metaslabs → GoOn p g metaslabs

-- what the journals say of a holder's steps

abbrev pub LanePartsAreSteps : Type 0
LanePartsAreSteps =
    (lane : ℕ) (events : List Event) (g : GateState) (metaslabs : List MsState) → 1 ≤ lane → InJournals lane events g metaslabs
    → (gate_part lane g.notes ≡ notes_of (gate_steps events))
    × ((k : ℕ) (m : MsState) → slice_get metaslabs k ≡ Some m → lane_part lane m.notes ≡ notes_of (metaslab_steps k events))

abbrev pub KeeperPartsAreSteps : Type 0
KeeperPartsAreSteps =
    (t : Turns) (last : Passes) (events : List Event) (g : GateState) (metaslabs : List MsState) → AreClosed t last g metaslabs → InJournals 0 events g metaslabs
    → (settlings g.notes ≡ notes_of (gate_steps events))
    × ((k : ℕ) (m : MsState) → slice_get metaslabs k ≡ Some m → keeper_part m.notes ≡ notes_of (metaslab_steps k events))

-- a step's place and its note begin the journal
abbrev pub StepsStand : Type 0
StepsStand =
    (right : ℕ) (es fs : List Event) (k : ℕ) (s : Step Noted) (g : GateState) (metaslabs : List MsState) (m : MsState)
    → InJournals right (es ++ (at_metaslab k s ∷ fs)) g metaslabs → slice_get metaslabs k ≡ Some m → IsPrefix (s.before ++ option_to_list s.note) m.notes

abbrev pub GateStepsStand : Type 0
GateStepsStand =
    (right : ℕ) (es fs : List Event) (s : Step GateNote) (g : GateState) (metaslabs : List MsState)
    → InJournals right (es ++ (at_gate s ∷ fs)) g metaslabs → IsPrefix (s.before ++ option_to_list s.note) g.notes

-- the later of two steps at one cell found all that stood at the earlier one, and its note
abbrev pub PlacesNeverFall : Type 0
PlacesNeverFall =
    (right : ℕ) (es fs gs : List Event) (k : ℕ) (r s : Step Noted) (g : GateState) (metaslabs : List MsState) (m : MsState)
    → InJournals right (es ++ (at_metaslab k r ∷ (fs ++ (at_metaslab k s ∷ gs)))) g metaslabs → slice_get metaslabs k ≡ Some m
    → IsPrefix (r.before ++ option_to_list r.note) s.before

abbrev pub GatePlacesNeverFall : Type 0
GatePlacesNeverFall =
    (right : ℕ) (es fs gs : List Event) (r s : Step GateNote) (g : GateState) (metaslabs : List MsState)
    → InJournals right (es ++ (at_gate r ∷ (fs ++ (at_gate s ∷ gs)))) g metaslabs → IsPrefix (r.before ++ option_to_list r.note) s.before

-- the open group that a step at the gate found, which is that of a hold: the first one, and one more for each closing before it,
-- of which none is the holder's own from this step on
pub record IsOpenAt (s : Step GateNote) (from : List (Step GateNote)) (g : GateState) : Type 0 where
  pub counts : open_group g.opened s.before ≡ g.opened + 1 + closings s.before
  pub within : closings s.before + closings (notes_of from) ≤ closings g.notes

abbrev pub HoldsAreWithin : Type 0
HoldsAreWithin =
    (right : ℕ) (es fs : List Event) (s : Step GateNote) (g : GateState) (metaslabs : List MsState)
    → IsGateLegal g.opened g.notes → InJournals right (es ++ (at_gate s ∷ fs)) g metaslabs → IsOpenAt s (gate_steps (at_gate s ∷ fs)) g

-- and it rises by at least the closings of the holder's own between
abbrev pub HoldsNeverFall : Type 0
HoldsNeverFall =
    (right : ℕ) (es fs gs : List Event) (r s : Step GateNote) (g : GateState) (metaslabs : List MsState)
    → IsGateLegal g.opened g.notes → InJournals right (es ++ (at_gate r ∷ (fs ++ (at_gate s ∷ gs)))) g metaslabs
    → open_group g.opened r.before + closings (notes_of (gate_steps (at_gate r ∷ fs))) ≤ open_group g.opened s.before

-- what the keeper settled is settled at the end
abbrev pub SettlesStand : Type 0
SettlesStand =
    (es fs : List Event) (k : ℕ) (h : List Noted) (lane : ℕ) (group : Group) (t : Turns) (last : Passes) (g : GateState) (metaslabs : List MsState) (m : MsState)
    → AreClosed t last g metaslabs → InJournals 0 (es ++ (at_metaslab k (noting h (record { lane = lane; act = Settle group })) ∷ fs)) g metaslabs → slice_get metaslabs k ≡ Some m
    → group.0 ≤ settled_group (origin_of m) m.notes

abbrev pub GateSettlesStand : Type 0
GateSettlesStand =
    (es fs : List Event) (h : List GateNote) (group : Group) (g : GateState) (metaslabs : List MsState)
    → IsGateLegal g.opened g.notes → InJournals 0 (es ++ (at_gate (noting h (Settled group)) ∷ fs)) g metaslabs → group.0 ≤ synced_group g.opened g.notes
