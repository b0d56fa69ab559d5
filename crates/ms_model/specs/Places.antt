-- What the steps of a lane are to mean: the statements of the laws.
use Rattle.std.specs.Prelude.{◌≡◌, ℕ, ◌+◌, ◌≤◌, List, [], ◌∷◌, ◌++◌}
use Rattle.std.specs.List.{All}
use Rattle.std.specs.Option.{option_to_list}
use Rattle.ms_model.specs.Steps.{Step, notes_at, notes_of, Follows, IsPrefix}
use Rattle.ms_model.specs.Parts.{right_of, lane_part, keeper_part, HaveLanes, gate_right, gate_part, settlings, IsByLane}
use Rattle.ms_model.specs.Gates.{open_group, IsGateLegal, closings, ClosesBelow}
use Rattle.ms_model.specs.declared.notes.Noted.{Noted}
use Rattle.ms_model.specs.declared.notes.GateNote.{GateNote}

-- the notes that need a lane's number are the lane's part, and those that need the right 0 the keeper's part
abbrev pub PartsAreOfRights : Type 0
PartsAreOfRights =
    (h : List Noted) → ((lane : ℕ) → 1 ≤ lane → notes_at right_of lane h ≡ lane_part lane h) × (HaveLanes h → notes_at right_of 0 h ≡ keeper_part h)

abbrev pub GatePartsAreOfRights : Type 0
GatePartsAreOfRights =
    (g : List GateNote) → ((lane : ℕ) → 1 ≤ lane → notes_at gate_right lane g ≡ gate_part lane g) × (All IsByLane g → notes_at gate_right 0 g ≡ settlings g)

-- a lane's notes in a journal are those of its steps, in order
abbrev pub LaneNotesAreItsSteps : Type 0
LaneNotesAreItsSteps =
    (lane : ℕ) (steps : List (Step Noted)) (h : List Noted) → 1 ≤ lane → Follows right_of lane [] steps h → lane_part lane h ≡ notes_of steps

abbrev pub GateNotesAreItsSteps : Type 0
GateNotesAreItsSteps =
    (lane : ℕ) (steps : List (Step GateNote)) (h : List GateNote) → 1 ≤ lane → Follows gate_right lane [] steps h → gate_part lane h ≡ notes_of steps

-- and so are the keeper's
abbrev pub KeeperNotesAreItsSteps : Type 0
KeeperNotesAreItsSteps = (steps : List (Step Noted)) (h : List Noted) → HaveLanes h → Follows right_of 0 [] steps h → keeper_part h ≡ notes_of steps

abbrev pub SettlingsAreKeepersSteps : Type 0
SettlingsAreKeepersSteps = (steps : List (Step GateNote)) (g : List GateNote) → All IsByLane g → Follows gate_right 0 [] steps g → settlings g ≡ notes_of steps

-- a later step stands at a later place: all that stood at the earlier one, and its note, is before it
abbrev pub PlacesNeverFall : Type 0
PlacesNeverFall =
    (lane : ℕ) (ss : List (Step Noted)) (r : Step Noted) (ts : List (Step Noted)) (s : Step Noted) (us : List (Step Noted)) (h : List Noted)
    → Follows right_of lane [] (ss ++ (r ∷ (ts ++ (s ∷ us)))) h → IsPrefix (r.before ++ option_to_list r.note) s.before

abbrev pub GatePlacesNeverFall : Type 0
GatePlacesNeverFall =
    (lane : ℕ) (ss : List (Step GateNote)) (r : Step GateNote) (ts : List (Step GateNote)) (s : Step GateNote) (us : List (Step GateNote)) (h : List GateNote)
    → Follows gate_right lane [] (ss ++ (r ∷ (ts ++ (s ∷ us)))) h → IsPrefix (r.before ++ option_to_list r.note) s.before

-- each step's place is a beginning of the journal, and there the lane's notes are those of its earlier steps
abbrev pub PlacesAreWithin : Type 0
PlacesAreWithin =
    (lane : ℕ) (ss : List (Step Noted)) (s : Step Noted) (ts : List (Step Noted)) (h : List Noted)
    → 1 ≤ lane → Follows right_of lane [] (ss ++ (s ∷ ts)) h → IsPrefix s.before h × (lane_part lane s.before ≡ notes_of ss)

abbrev pub GatePlacesAreWithin : Type 0
GatePlacesAreWithin =
    (lane : ℕ) (ss : List (Step GateNote)) (s : Step GateNote) (ts : List (Step GateNote)) (h : List GateNote)
    → 1 ≤ lane → Follows gate_right lane [] (ss ++ (s ∷ ts)) h → IsPrefix s.before h × (gate_part lane s.before ≡ notes_of ss)

-- each closing opens the next group
abbrev pub OpenGroupCountsClosings : Type 0
OpenGroupCountsClosings = (opened : ℕ) (h : List GateNote) → IsGateLegal opened h → open_group opened h ≡ opened + 1 + closings h

-- from one place of a lane to a later one the open group rises by at least what the lane closed there, and is above it
abbrev pub OpenGroupNeverFalls : Type 0
OpenGroupNeverFalls =
    (opened lane : ℕ) (ss : List (Step GateNote)) (r : Step GateNote) (ts : List (Step GateNote)) (s : Step GateNote) (us : List (Step GateNote)) (h : List GateNote)
    → IsGateLegal opened h → Follows gate_right lane [] (ss ++ (r ∷ (ts ++ (s ∷ us)))) h
    → (open_group opened r.before + closings (notes_of (r ∷ ts)) ≤ open_group opened s.before)
    × All (ClosesBelow (open_group opened s.before)) (notes_of (r ∷ ts))

-- and the same up to the journal's end
abbrev pub OpenGroupIsWithin : Type 0
OpenGroupIsWithin =
    (opened lane : ℕ) (ss : List (Step GateNote)) (s : Step GateNote) (ts : List (Step GateNote)) (h : List GateNote)
    → IsGateLegal opened h → Follows gate_right lane [] (ss ++ (s ∷ ts)) h
    → open_group opened s.before + closings (notes_of (s ∷ ts)) ≤ open_group opened h
