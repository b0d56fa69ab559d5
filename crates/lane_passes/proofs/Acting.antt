-- Facts of what a lane did: they join, and a turn of a lower crate is one.
use Rattle.std.proofs.Common.{◌≡◌, ℕ, List, [], ◌++◌, refl, sym, ap, subst, Option}
use Rattle.ms_model.specs.Origin.{Origin}
use Rattle.ms_model.specs.declared.notes.Noted.{Noted}
use Rattle.ms_model.specs.declared.notes.GateNote.{GateNote}
use Rattle.ms_cell.specs.Turns.{Turns, origin_from}
use Rattle.ms_cell.specs.Passes.{Passes, origin_in}
use Rattle.ms_cell.specs.Journey.{Journey as CellJourney, Turned, TurnedGate}
use Rattle.ms_cell.proofs.JournalLaws.{no_journey}
use Rattle.class_model.specs.Replay.{LaneNote}
use Rattle.class_model.specs.declared.origin.ClassOrigin.{ClassOrigin}
use Rattle.class_core.specs.Classes.{ClassState}
use Rattle.class_group.specs.Turns.{ClassTurns, origin_from as class_origin_from}
use Rattle.class_group.specs.Passes.{ClassKnown, origin_in as class_origin_in}
use Rattle.class_group.specs.Journey.{Turned as ClassTurned}
use Rattle.class_group.proofs.JournalLaws.{no_journey as class_no_journey}
use Rattle.lane_passes.specs.Lanes.{LaneEvent, Ground, ground_of, origin_at, class_origin_at, IsSeated, Acted}
use Rattle.lane_passes.specs.Turns.{AtGate, AtMetaslab, AtClass, Nothing, Then}
use Rattle.lane_passes.specs.declared.passes.LanePasses.{LanePasses}
use Rattle.lane_passes.proofs.Journeys.{lane_no_journey, lane_journeys_join, lane_stays_seated, lane_grounds_stay, fixed_there}

module _ {R : Type 0} where
  pub acted_none : (t : Turns) (c : ClassTurns) (p : LanePasses R) → IsSeated t c p → Acted t Nothing p p
  acted_none t c p s = record { events = []; journey = lane_no_journey R t c p s; fact = refl }

  pub acted_seated : (t : Turns) (c : ClassTurns) (Fact : Ground → List LaneEvent → Type 0) (p q : LanePasses R) → IsSeated t c p → Acted t Fact p q → IsSeated t c q
  acted_seated t c Fact p q s a = lane_stays_seated R t c a.events p q s a.journey

  pub acted_as : (t : Turns) (First Second : Ground → List LaneEvent → Type 0) (p q : LanePasses R) → ((es : List LaneEvent) → First (ground_of t p) es → Second (ground_of t p) es) → Acted t First p q → Acted t Second p q
  acted_as t First Second p q means a = record { events = a.events; journey = a.journey; fact = means a.events a.fact }

  pub acted_join : (t : Turns) (First Second Whole : Ground → List LaneEvent → Type 0) (p q r : LanePasses R)
      → ((es fs : List LaneEvent) → First (ground_of t p) es → Second (ground_of t p) fs → Whole (ground_of t p) (es ++ fs)) → Acted t First p q → Acted t Second q r → Acted t Whole p r
  acted_join t First Second Whole p q r joins a b = record {
    events = a.events ++ b.events;
    journey = lane_journeys_join R a.events b.events p q r a.journey b.journey;
    fact = joins a.events b.events a.fact (subst (λ (g : Ground). Second g b.events) (lane_grounds_stay R t a.events p q a.journey) b.fact);
  }

  pub acted_then : (t : Turns) (First Second : Ground → List LaneEvent → Type 0) (p q r : LanePasses R) → Acted t First p q → Acted t Second q r → Acted t (Then First Second) p r
  acted_then t First Second p q r a b = acted_join t First Second (Then First Second) p q r (λ es fs x y. record { one = es; two = fs; whole = refl; first = x; second = y }) a b

  -- what each metaslab and each class was, as the passes and as the ground have it
  pub origin_same : (t : Turns) (p : LanePasses R) (number : ℕ) → origin_in p.cells number ≡ origin_at (ground_of t p) number
  origin_same t p number = ap origin_from (sym (fixed_there p.cells.metaslabs number))

  pub class_origin_same : (t : Turns) (p : LanePasses R) (place : ℕ) → class_origin_in p.classes place ≡ class_origin_at (ground_of t p) place
  class_origin_same t p place = ap class_origin_from (sym (fixed_there p.classes place))

  module _ (t : Turns) (c : ClassTurns) (p : LanePasses R) (s : IsSeated t c p) where
    pub cells_went : (q : Passes) → CellJourney p.lane [] p.cells q → Acted t Nothing p (record p { cells = q })
    cells_went q w = record { events = []; journey = record { lane = refl; cells = w; classes = class_no_journey p.lane c p.classes s.classes }; fact = refl }

    pub at_gate_acted : (Answer : List GateNote → Option GateNote → Type 0) (q : Passes) → TurnedGate p.lane Answer p.cells q → Acted t (AtGate Answer) p (record p { cells = q })
    at_gate_acted Answer q w = record {
      events = _;
      journey = record { lane = refl; cells = w.journey; classes = class_no_journey p.lane c p.classes s.classes };
      fact = record { before = w.before; note = w.note; is = refl; answer = w.answer };
    }

    pub at_metaslab_acted : (number : ℕ) (Answer : Origin → List Noted → Option Noted → Type 0) (q : Passes) → Turned p.lane number Answer p.cells q → Acted t (AtMetaslab number Answer) p (record p { cells = q })
    at_metaslab_acted number Answer q w = record {
      events = _;
      journey = record { lane = refl; cells = w.journey; classes = class_no_journey p.lane c p.classes s.classes };
      fact = record { before = w.before; note = w.note; is = refl; answer = subst (λ (o : Origin). Answer o w.before w.note) (origin_same t p number) w.answer };
    }

    pub at_class_acted : (place : ℕ) (Answer : ClassState → Option LaneNote → Type 0) (q : List ClassKnown) → ClassTurned p.lane place Answer p.classes q → Acted t (AtClass place Answer) p (record p { classes = q })
    at_class_acted place Answer q w = record {
      events = _;
      journey = record { lane = refl; cells = no_journey p.lane t p.cells s.cells; classes = w.journey };
      fact = record {
        before = w.before;
        note = w.note;
        is = refl;
        answer = subst (λ (o : ClassOrigin). Answer (record { origin = o; notes = w.before }) w.note) (class_origin_same t p place) w.answer;
      };
    }
