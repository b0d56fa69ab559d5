-- What a lane did in its passes and at the keeper, part by part.
use Rattle.std.proofs.Common.{◌≡◌, ℕ, ◌<◌, ◌≤◌, List, [], ◌∷◌, ◌++◌, length, refl, sym, ◌∙◌, ap, subst, Option, arith}
use Rattle.std.proofs.lemmas.List.{append-nil}
use Rattle.lane_steps.proofs.Steps.{prefix_trans}
use Rattle.turn_cell.specs.Lanes.{Step, Ready, Went}
use Rattle.turn_cell.proofs.Lanes.{ready_after, went_none, went_both}
use Rattle.txg_gate.specs.Closings.{closings_of}
use Rattle.ms_model.specs.Events.{Event}
use Rattle.ms_model.specs.Origin.{Origin}
use Rattle.ms_model.specs.Units.{settled_group}
use Rattle.ms_model.specs.declared.notes.GateNote.{GateNote}
use Rattle.ms_cell.specs.Turns.{Turns}
use Rattle.ms_cell.specs.Passes.{Passes, seen_in}
use Rattle.ms_cell.specs.Journey.{Journey}
use Rattle.ms_cell.proofs.JournalLaws.{own_notes}
use Rattle.class_group.specs.Turns.{ClassTurns}
use Rattle.class_group.proofs.JournalLaws.{no_journey as class_no_journey}
use Rattle.lane_passes.specs.Lanes.{LaneEvent, Ground, ground_of, IsSeated, Acted, Journey as LaneJourney}
use Rattle.lane_passes.specs.declared.passes.LanePasses.{LanePasses}
use Rattle.lane_passes.proofs.Journeys.{lane_journeys_join, lane_grounds_stay}
use Rattle.pool_keeper.specs.Lines.{HasSettled}
use Rattle.pool_keeper.specs.Notes.{KeeperNoted, keeper_right}
use Rattle.pool_keeper.specs.Serving.{Serves, KeeperTurn}
use Rattle.pool_keeper.specs.SyncParts.{Did}
use Rattle.pool_keeper.specs.declared.lane_keeper.LaneKeeper.{LaneKeeper}
use Rattle.pool_keeper.proofs.Knowing.{gate_grows, seen_grows, origin_same}

-- what a lane has seen settled stays so

pub settled_later : (t : Turns) (group right : ℕ) (es : List Event) (p q : Passes) → length t.metaslabs ≡ length p.metaslabs → Journey right es p q → HasSettled t group p → HasSettled t group q
settled_later t group right es p q count w is = record {
  each = λ k lt.
      let here = is.each k lt in
      let less : k < length p.metaslabs = omega (arith, lt, count) in
      (here.0, (prefix_trans here.0 (seen_in p k) (seen_in q k) here.1.0 (seen_grows right es p q w k less), subst (λ (o : Origin). group ≤ settled_group o here.0) (sym (origin_same right es p q w k less)) here.1.1));
  gate = (is.gate.0, (prefix_trans is.gate.0 p.gate.seen q.gate.seen is.gate.1.0 (gate_grows right es p q w), is.gate.1.1));
}

-- and it closed nothing meanwhile
pub closings_calm : (lane : ℕ) (p q : Passes) → Journey lane [] p q → closings_of lane q.gate.seen ≡ closings_of lane p.gate.seen
closings_calm lane p q w = ap (λ (l : List GateNote). length l) ((own_notes lane [] p q w).0 ∙ append-nil _)

module _ {R : Type 0} where
  pub few_calm : (p q : LanePasses R) → LaneJourney [] p q → closings_of q.lane q.cells.gate.seen ≡ closings_of p.lane p.cells.gate.seen
  few_calm p q w = ap (λ (n : ℕ). closings_of n q.cells.gate.seen) w.lane ∙ closings_calm p.lane p.cells q.cells w.cells

  -- a lane that did nothing at the classes
  pub at_cells_alone : (t : Turns) (c : ClassTurns) (p : LanePasses R) → IsSeated t c p → (q : Passes) → Journey p.lane [] p.cells q → LaneJourney [] p (record p { cells = q })
  at_cells_alone t c p s q w = record { lane = refl; cells = w; classes = class_no_journey p.lane c p.classes s.classes }

module _ {D R : Type 0} (t : Turns) where
  pub serves_went : (lane : ℕ) (steps : List (Step KeeperNoted)) (a b : LaneKeeper D R) → Serves a lane t → Went keeper_right lane steps a.pass b.pass → b.turn.now ≡ a.turn.now → b.lane ≡ a.lane → Serves b lane t
  serves_went lane steps a b was went turn same = record {
    lane_is = same ∙ was.lane_is;
    start = was.start;
    is = went.fixed ∙ was.is;
    of = was.of;
    ready = subst (λ x. Ready keeper_right lane x b.pass) (sym turn) (ready_after keeper_right lane a.turn.now steps a.pass b.pass was.ready went);
  }

  pub serves_turn : (lane : ℕ) (Answer : List KeeperNoted → Option KeeperNoted → Type 0) (a b : LaneKeeper D R) → Serves a lane t → KeeperTurn lane Answer a b → Serves b lane t
  serves_turn lane Answer a b was turn = serves_went lane _ a b was turn.went turn.turn turn.lane_is

  module _ (Line : Ground → List LaneEvent → List (Step KeeperNoted) → Type 0) where
    pub serves_did : (p q : LanePasses R) (a b : LaneKeeper D R) → Serves a p.lane t → Did t Line p q a b → Serves b q.lane t
    serves_did p q a b was did = subst (λ (n : ℕ). Serves b n t) (sym did.acted.journey.lane) (serves_went p.lane did.steps a b was did.went did.turn did.lane_is)

    -- the lane acted, and took no turn at the keeper
    pub did_still : (First : Ground → List LaneEvent → Type 0) (p q : LanePasses R) (a : LaneKeeper D R) → ((es : List LaneEvent) → First (ground_of t p) es → Line (ground_of t p) es []) → Serves a p.lane t
        → Acted t First p q → Did t Line p q a a
    did_still First p q a means serves acted = record {
      steps = [];
      acted = record { events = acted.events; journey = acted.journey; fact = means acted.events acted.fact };
      went = went_none keeper_right p.lane a.turn.now a.pass serves.ready;
      turn = refl;
      lane_is = refl;
      count = refl;
      last = refl;
    }

    -- it took one turn there, and did nothing else
    pub did_turn : (Answer : List KeeperNoted → Option KeeperNoted → Type 0) (p q : LanePasses R) (a b : LaneKeeper D R)
        → ((s : Step KeeperNoted) → Answer s.before s.note → Line (ground_of t p) [] (s ∷ [])) → LaneJourney [] p q → KeeperTurn p.lane Answer a b → Did t Line p q a b
    did_turn Answer p q a b means w turn =
        let s : Step KeeperNoted = record { before = turn.before; note = turn.note } in
        record {
          steps = s ∷ [];
          acted = record { events = []; journey = w; fact = means s turn.answer };
          went = turn.went;
          turn = turn.turn;
          lane_is = turn.lane_is;
          count = turn.count;
          last = turn.last;
        }

    -- it took one turn there, and then acted
    pub did_turn_then : (Answer : List KeeperNoted → Option KeeperNoted → Type 0) (Fact : Ground → List LaneEvent → Type 0) (p q r : LanePasses R) (a b : LaneKeeper D R)
        → ((s : Step KeeperNoted) (es : List LaneEvent) → Answer s.before s.note → Fact (ground_of t p) es → Line (ground_of t p) es (s ∷ []))
        → LaneJourney [] p q → KeeperTurn p.lane Answer a b → Acted t Fact q r → Did t Line p r a b
    did_turn_then Answer Fact p q r a b means w turn acted =
        let s : Step KeeperNoted = record { before = turn.before; note = turn.note } in
        record {
          steps = s ∷ [];
          acted = record {
            events = acted.events;
            journey = lane_journeys_join R [] acted.events p q r w acted.journey;
            fact = means s acted.events turn.answer (subst (λ (g : Ground). Fact g acted.events) (lane_grounds_stay R t [] p q w) acted.fact);
          };
          went = turn.went;
          turn = turn.turn;
          lane_is = turn.lane_is;
          count = turn.count;
          last = turn.last;
        }

    module _ (Second : Ground → List LaneEvent → List (Step KeeperNoted) → Type 0) where
      -- it acted, and then the rest
      pub did_behind : (First : Ground → List LaneEvent → Type 0) (p q r : LanePasses R) (a b : LaneKeeper D R)
          → ((es fs : List LaneEvent) (steps : List (Step KeeperNoted)) → First (ground_of t p) es → Second (ground_of t p) fs steps → Line (ground_of t p) (es ++ fs) steps)
          → Acted t First p q → Did t Second q r a b → Did t Line p r a b
      did_behind First p q r a b joins acted did = record {
        steps = did.steps;
        acted = record {
          events = acted.events ++ did.acted.events;
          journey = lane_journeys_join R acted.events did.acted.events p q r acted.journey did.acted.journey;
          fact = joins acted.events did.acted.events did.steps acted.fact (subst (λ (g : Ground). Second g did.acted.events did.steps) (lane_grounds_stay R t acted.events p q acted.journey) did.acted.fact);
        };
        went = subst (λ (n : ℕ). Went keeper_right n did.steps a.pass b.pass) acted.journey.lane did.went;
        turn = did.turn;
        lane_is = did.lane_is;
        count = did.count;
        last = did.last;
      }

      -- it took one turn at the keeper, and then the rest
      pub did_after : (Answer : List KeeperNoted → Option KeeperNoted → Type 0) (p q r : LanePasses R) (a b c : LaneKeeper D R)
          → ((s : Step KeeperNoted) (es : List LaneEvent) (steps : List (Step KeeperNoted)) → Answer s.before s.note → Second (ground_of t p) es steps → Line (ground_of t p) es (s ∷ steps))
          → LaneJourney [] p q → KeeperTurn p.lane Answer a b → Did t Second q r b c → Did t Line p r a c
      did_after Answer p q r a b c joins w turn did =
          let s : Step KeeperNoted = record { before = turn.before; note = turn.note } in
          record {
            steps = s ∷ did.steps;
            acted = record {
              events = did.acted.events;
              journey = lane_journeys_join R [] did.acted.events p q r w did.acted.journey;
              fact = joins s did.acted.events did.steps turn.answer (subst (λ (g : Ground). Second g did.acted.events did.steps) (lane_grounds_stay R t [] p q w) did.acted.fact);
            };
            went = went_both keeper_right p.lane (s ∷ []) did.steps a.pass b.pass c.pass turn.went (subst (λ (n : ℕ). Went keeper_right n did.steps b.pass c.pass) w.lane did.went);
            turn = did.turn ∙ turn.turn;
            lane_is = did.lane_is ∙ turn.lane_is;
            count = did.count ∙ turn.count;
            last = did.last ∙ turn.last;
          }

      -- it did one thing, and then another
      pub did_join : (First : Ground → List LaneEvent → List (Step KeeperNoted) → Type 0) (p q r : LanePasses R) (a b c : LaneKeeper D R)
          → ((es fs : List LaneEvent) (ss ts : List (Step KeeperNoted)) → First (ground_of t p) es ss → Second (ground_of t p) fs ts → Line (ground_of t p) (es ++ fs) (ss ++ ts))
          → Did t First p q a b → Did t Second q r b c → Did t Line p r a c
      did_join First p q r a b c joins did then = record {
        steps = did.steps ++ then.steps;
        acted = record {
          events = did.acted.events ++ then.acted.events;
          journey = lane_journeys_join R did.acted.events then.acted.events p q r did.acted.journey then.acted.journey;
          fact = joins did.acted.events then.acted.events did.steps then.steps did.acted.fact
              (subst (λ (g : Ground). Second g then.acted.events then.steps) (lane_grounds_stay R t did.acted.events p q did.acted.journey) then.acted.fact);
        };
        went = went_both keeper_right p.lane did.steps then.steps a.pass b.pass c.pass did.went (subst (λ (n : ℕ). Went keeper_right n then.steps b.pass c.pass) did.acted.journey.lane then.went);
        turn = then.turn ∙ did.turn;
        lane_is = then.lane_is ∙ did.lane_is;
        count = then.count ∙ did.count;
        last = then.last ∙ did.last;
      }
