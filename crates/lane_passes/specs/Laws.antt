-- What the definitions give: the statements of the laws.
use Rattle.std.specs.Prelude.{◌≡◌, List, [], ◌++◌}
use Rattle.ms_cell.specs.Turns.{Turns}
use Rattle.class_group.specs.Turns.{ClassTurns}
use Rattle.lane_passes.specs.Lanes.{LaneEvent, cell_events, class_steps, ground_of, IsSeated, Journey}
use Rattle.lane_passes.specs.declared.passes.LanePasses.{LanePasses}

abbrev pub NoJourney : Type 0 → Type 0
NoJourney R = (t : Turns) (c : ClassTurns) (p : LanePasses R) → IsSeated t c p → Journey [] p p

abbrev pub JourneysJoin : Type 0 → Type 0
JourneysJoin R = (es fs : List LaneEvent) (p q r : LanePasses R) → Journey es p q → Journey fs q r → Journey (es ++ fs) p r

abbrev pub EventsJoin : Type 0
EventsJoin = (es fs : List LaneEvent) → (cell_events (es ++ fs) ≡ cell_events es ++ cell_events fs) × (class_steps (es ++ fs) ≡ class_steps es ++ class_steps fs)

abbrev pub StaysSeated : Type 0 → Type 0
StaysSeated R = (t : Turns) (c : ClassTurns) (es : List LaneEvent) (p q : LanePasses R) → IsSeated t c p → Journey es p q → IsSeated t c q

-- what each metaslab and each class was when the pool was opened does not change
abbrev pub GroundsStay : Type 0 → Type 0
GroundsStay R = (t : Turns) (es : List LaneEvent) (p q : LanePasses R) → Journey es p q → ground_of t q ≡ ground_of t p
