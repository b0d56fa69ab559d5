-- What a lane holds, and what it did between two moments.
use Rattle.std.specs.Prelude.{◌≡◌, ℕ, Option, Some, None, List, [], ◌∷◌, slice_get, map}
use Rattle.zms_units.specs.Limits.{IsLane}
use Rattle.zms_units.specs.declared.places.VdevRow.{VdevRow}
use Rattle.ms_model.specs.Events.{Event}
use Rattle.ms_model.specs.Origin.{Origin}
use Rattle.ms_core.specs.declared.kept.Standing.{Standing}
use Rattle.ms_cell.specs.Turns.{Turns, origin_from}
use Rattle.ms_cell.specs.Passes.{Seated as CellsSeated}
use Rattle.ms_cell.specs.Journey.{Journey as CellJourney}
use Rattle.class_model.specs.declared.origin.ClassOrigin.{ClassOrigin}
use Rattle.class_group.specs.Turns.{ClassTurns, origin_from as class_origin_from}
use Rattle.class_group.specs.Passes.{Seated as ClassesSeated}
use Rattle.class_group.specs.Journey.{ClassStep, Journey as ClassJourney}
use Rattle.lane_passes.specs.declared.passes.LanePasses.{LanePasses}

-- a step of a lane: at the gate or a metaslab, or at a class
pub data LaneEvent : Type 0 where
  at_cell : Event → LaneEvent
  at_class : ClassStep → LaneEvent

-- those at the gate and the metaslabs, and those at the classes, each in order
abbrev pub cell_events : List LaneEvent → List Event
cell_events [] = []
cell_events (at_cell e ∷ es) = e ∷ cell_events es
cell_events (at_class _ ∷ es) = cell_events es

abbrev pub class_steps : List LaneEvent → List ClassStep
class_steps [] = []
class_steps (at_cell _ ∷ es) = class_steps es
class_steps (at_class s ∷ es) = s ∷ class_steps es

-- what events are judged by: the vdevs, the group that was opened, and what each metaslab, by number, and each class, by place, was then
pub record Ground : Type 0 where
  pub vdevs : List VdevRow
  pub opened : ℕ
  pub metaslabs : List (Option Standing)
  pub classes : List (Option ClassOrigin)

abbrev pub fixed_at : {A : Type 0} → Option (Option A) → Option A
fixed_at None = None
fixed_at (Some fixed) = fixed

abbrev pub origin_at : Ground → ℕ → Origin
origin_at g number = origin_from (fixed_at (slice_get g.metaslabs number))

abbrev pub class_origin_at : Ground → ℕ → ClassOrigin
class_origin_at g place = class_origin_from (fixed_at (slice_get g.classes place))

module _ {R : Type 0} where
  -- the ground of a lane, as its passes know it
  abbrev pub ground_of : Turns → LanePasses R → Ground
  ground_of t p = record { vdevs = t.vdevs; opened = t.opened; metaslabs = map (λ c. c.fixed) p.cells.metaslabs; classes = map (λ c. c.fixed) p.classes }

  -- a lane at rest, with passes of these cells and these classes, which are of one pool
  pub record IsSeated (t : Turns) (c : ClassTurns) (p : LanePasses R) : Type 0 where
    pub lane : IsLane p.lane
    pub cells : CellsSeated p.lane t p.cells
    pub classes : ClassesSeated p.lane c p.classes
    pub one : c.vdevs ≡ t.vdevs

  -- its passes were p and are q, and it took just these steps, in this order
  pub record Journey (events : List LaneEvent) (p q : LanePasses R) : Type 0 where
    pub lane : q.lane ≡ p.lane
    pub cells : CellJourney p.lane (cell_events events) p.cells q.cells
    pub classes : ClassJourney p.lane (class_steps events) p.classes q.classes

  -- and these are as a fact says
  pub record Acted (t : Turns) (Fact : Ground → List LaneEvent → Type 0) (p q : LanePasses R) : Type 0 where
    pub events : List LaneEvent
    pub journey : Journey events p q
    pub fact : Fact (ground_of t p) events
