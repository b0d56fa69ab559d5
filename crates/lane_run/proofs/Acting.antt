-- What a lane did, part by part: in its passes, and by loads in its part of the keeper.
use Rattle.std.proofs.Common.{◌≡◌, ℕ, ◌+◌, ◌-◌, ◌^◌, ◌<◌, ◌≤◌, List, [], ◌∷◌, ◌++◌, length, refl, sym, ap, ◌∙◌, subst, arith, Option, None, Some, Result, Ok, Err}
use Rattle.std.specs.Prelude.{min, IfOk}
use Rattle.zms_units.specs.Limits.{MAX_COMMANDS}
use Rattle.turn_cell.specs.Lanes.{Step, Ready, Went}
use Rattle.turn_cell.proofs.Lanes.{went_none, went_both}
use Rattle.ms_cell.specs.Turns.{Turns}
use Rattle.ms_cell.specs.declared.loader.LoadFault.{LoadFault}
use Rattle.class_group.specs.Turns.{ClassTurns}
use Rattle.lane_passes.specs.Lanes.{LaneEvent, Ground, ground_of, IsSeated, Acted, Journey}
use Rattle.lane_passes.specs.declared.passes.LanePasses.{LanePasses}
use Rattle.lane_passes.proofs.Acting.{acted_seated}
use Rattle.lane_passes.proofs.Journeys.{lane_no_journey, lane_journeys_join, lane_grounds_stay}
use Rattle.pool_alloc.specs.Loads.{CountsOne}
use Rattle.pool_keeper.specs.Notes.{KeeperNoted, keeper_right}
use Rattle.pool_keeper.specs.Lines.{LoadNoted}
use Rattle.pool_keeper.specs.Serving.{AreRefused, last_of, Serves, Follows}
use Rattle.pool_keeper.specs.declared.lane_keeper.LaneKeeper.{LaneKeeper}
use Rattle.pool_keeper.proofs.SyncActs.{serves_went}
use Rattle.lane_run.specs.Answers.{Tells}
use Rattle.lane_run.specs.Acts.{Anything, LaneDid, IsSpared}
use Rattle.lane_run.specs.Lines.{LoadSteps, none, refused}
use Rattle.lane_run.specs.declared.replies.Answer.{Answer}
use Rattle.lane_run.proofs.Closings.{IsCalm, IsOneAtMost, closings_then, one_of_calm}

-- an answer is one that was told
pub where_told : {E : Type 0} (P : Answer → Type 0) (told : Option Answer) (result : Result Answer E) → Tells told result → ((answer : Answer) → told ≡ Some answer → P answer) → IfOk result P
where_told P (Some answer) (Ok given) tells there = there given (ap (λ (x : Answer). Some x) (sym tells))
where_told P None (Ok given) tells there = absurd tells
where_told P told (Err e) tells there = tt

-- of the refusals that were counted there is at most one, and it is the one that is told

same_fault : (f fault : LoadFault) → Some f ≡ Some fault → f ≡ fault
same_fault f fault e = cc

loads_told : (lane : ℕ) (fault : Option LoadFault) (ss : List (Step KeeperNoted)) (fs : List LoadFault) (count count_now : ℕ) (last last_now : Option LoadFault) → count < MAX_COMMANDS → AreRefused lane ss fs
    → count_now ≡ min (count + length fs) (2 ^ 64 - 1) → last_now ≡ last_of last fs → CountsOne fault count last count_now last_now → LoadSteps lane fault ss
loads_told lane None [] [] count count_now last last_now low are counts at is = none
loads_told lane None (s ∷ ss) (f ∷ fs) count count_now last last_now low are counts at is = absurd (omega (arith, low, counts, is.0))
loads_told lane (Some fault) [] [] count count_now last last_now low are counts at is = absurd (omega (arith, low, counts, is.0))
loads_told lane (Some fault) (s ∷ []) (f ∷ []) count count_now last last_now low are counts at is =
    refused fault s (subst (λ (x : LoadFault). LoadNoted lane (Err x) s.before s.note) (same_fault f fault (sym at ∙ is.1)) are.0.1)
loads_told lane (Some fault) (s ∷ (r ∷ ss)) (f ∷ (h ∷ fs)) count count_now last last_now low are counts at is = absurd (omega (arith, low, counts, is.0))
loads_told lane (Some fault) (s ∷ []) (f ∷ (h ∷ fs)) count count_now last last_now low are counts at is = absurd are.1
loads_told lane (Some fault) (s ∷ (r ∷ ss)) (f ∷ []) count count_now last last_now low are counts at is = absurd are.1
loads_told lane fault [] (f ∷ fs) count count_now last last_now low are counts at is = absurd are
loads_told lane fault (s ∷ ss) [] count count_now last last_now low are counts at is = absurd are

at_most_one : (fault : Option LoadFault) (count count_now : ℕ) (last last_now : Option LoadFault) → CountsOne fault count last count_now last_now → count_now ≤ count + 1
at_most_one None count count_now last last_now is = omega (arith, is.0)
at_most_one (Some fault) count count_now last last_now is = omega (arith, is.0)

module _ {D R : Type 0} (t : Turns) where
  module _ (p q : LanePasses R) (a b : LaneKeeper D R) where
    pub did_as : (First Second : Ground → List LaneEvent → List (Step KeeperNoted) → Type 0) → ((es : List LaneEvent) (ks : List (Step KeeperNoted)) → First (ground_of t p) es ks → Second (ground_of t p) es ks)
        → LaneDid t First p q a b → LaneDid t Second p q a b
    did_as First Second means did = record {
      steps = did.steps;
      acted = record { events = did.acted.events; journey = did.acted.journey; fact = means did.acted.events did.steps did.acted.fact };
      went = did.went;
      turn = did.turn;
      lane_is = did.lane_is;
    }

    pub did_seated : (c : ClassTurns) (Fact : Ground → List LaneEvent → List (Step KeeperNoted) → Type 0) → IsSeated t c p → LaneDid t Fact p q a b → IsSeated t c q
    did_seated c Fact s did = acted_seated t c (λ g es. Fact g es did.steps) p q s did.acted

    pub did_serves : (Fact : Ground → List LaneEvent → List (Step KeeperNoted) → Type 0) → Serves a p.lane t → LaneDid t Fact p q a b → Serves b q.lane t
    did_serves Fact was did = subst (λ (n : ℕ). Serves b n t) (sym did.acted.journey.lane) (serves_went t p.lane did.steps a b was did.went did.turn did.lane_is)

    pub spared : (es : List LaneEvent) → Journey es p q → IsOneAtMost es → b.refusals ≤ a.refusals + 1 → IsSpared 1 p q a b
    spared es w one few = record { closings = omega (arith, closings_then es p q w, one); refusals = few }

    module _ (serves : Serves a p.lane t) (along : Follows a b) where
      went : Went keeper_right p.lane along.steps a.pass b.pass
      went =
          subst (λ (n : ℕ). Went keeper_right n along.steps a.pass b.pass) serves.lane_is
          (along.went (subst (λ (n : ℕ). Ready keeper_right n a.turn.now a.pass) (sym serves.lane_is) serves.ready))

      -- whatever was loaded
      pub did_along : (events : List LaneEvent) → Journey events p q → LaneDid t Anything p q a b
      did_along events w = record { steps = along.steps; acted = record { events = events; journey = w; fact = tt }; went = went; turn = along.turn; lane_is = along.lane }

    module _ (serves : Serves a p.lane t) (along : Follows a b) (low : a.refusals < MAX_COMMANDS) (fault : Option LoadFault) (counts : CountsOne fault a.refusals a.last b.refusals b.last) where
      loads : LoadSteps p.lane fault along.steps
      loads =
          loads_told p.lane fault along.steps along.refused a.refusals b.refusals a.last b.last low
          (subst (λ (n : ℕ). AreRefused n along.steps along.refused) serves.lane_is along.loads) (along.count (omega (arith, low))) along.last counts

      -- the lane acted in its passes, with loads between
      pub did_loads : (Fact : Ground → List LaneEvent → Type 0) (Line : Ground → List LaneEvent → List (Step KeeperNoted) → Type 0)
          → ((es : List LaneEvent) (ks : List (Step KeeperNoted)) → Fact (ground_of t p) es → LoadSteps p.lane fault ks → Line (ground_of t p) es ks) → Acted t Fact p q → LaneDid t Line p q a b
      did_loads Fact Line means acted = record {
        steps = along.steps;
        acted = record { events = acted.events; journey = acted.journey; fact = means acted.events along.steps acted.fact loads };
        went = went serves along;
        turn = along.turn;
        lane_is = along.lane;
      }

      pub spared_loads : (es : List LaneEvent) → Journey es p q → IsCalm es → IsSpared 1 p q a b
      spared_loads es w calm = spared es w (one_of_calm es calm) (at_most_one fault a.refusals b.refusals a.last b.last counts)

  -- nothing was done
  pub did_nothing : (c : ClassTurns) (p : LanePasses R) (a : LaneKeeper D R) (Line : Ground → List LaneEvent → List (Step KeeperNoted) → Type 0) → IsSeated t c p → Serves a p.lane t → Line (ground_of t p) [] []
      → LaneDid t Line p p a a
  did_nothing c p a Line s serves line = record {
    steps = [];
    acted = record { events = []; journey = lane_no_journey R t c p s; fact = line };
    went = went_none keeper_right p.lane a.turn.now a.pass serves.ready;
    turn = refl;
    lane_is = refl;
  }

  -- one thing was done, and then another in the passes alone
  pub did_then : (First Line : Ground → List LaneEvent → List (Step KeeperNoted) → Type 0) (Second : Ground → List LaneEvent → Type 0) (p q r : LanePasses R) (a b : LaneKeeper D R)
      → ((es fs : List LaneEvent) (ks : List (Step KeeperNoted)) → First (ground_of t p) es ks → Second (ground_of t p) fs → Line (ground_of t p) (es ++ fs) ks)
      → LaneDid t First p q a b → Acted t Second q r → LaneDid t Line p r a b
  did_then First Line Second p q r a b joins did then = record {
    steps = did.steps;
    acted = record {
      events = did.acted.events ++ then.events;
      journey = lane_journeys_join R did.acted.events then.events p q r did.acted.journey then.journey;
      fact = joins did.acted.events then.events did.steps did.acted.fact (subst (λ (g : Ground). Second g then.events) (lane_grounds_stay R t did.acted.events p q did.acted.journey) then.fact);
    };
    went = did.went;
    turn = did.turn;
    lane_is = did.lane_is;
  }

  -- or in both
  pub did_join : (First Second Line : Ground → List LaneEvent → List (Step KeeperNoted) → Type 0) (p q r : LanePasses R) (a b c : LaneKeeper D R)
      → ((es fs : List LaneEvent) (ks ls : List (Step KeeperNoted)) → First (ground_of t p) es ks → Second (ground_of t p) fs ls → Line (ground_of t p) (es ++ fs) (ks ++ ls))
      → LaneDid t First p q a b → LaneDid t Second q r b c → LaneDid t Line p r a c
  did_join First Second Line p q r a b c joins did then = record {
    steps = did.steps ++ then.steps;
    acted = record {
      events = did.acted.events ++ then.acted.events;
      journey = lane_journeys_join R did.acted.events then.acted.events p q r did.acted.journey then.acted.journey;
      fact = joins did.acted.events then.acted.events did.steps then.steps did.acted.fact
          (subst (λ (g : Ground). Second g then.acted.events then.steps) (lane_grounds_stay R t did.acted.events p q did.acted.journey) then.acted.fact);
    };
    went = went_both keeper_right p.lane did.steps then.steps a.pass b.pass c.pass did.went (subst (λ (n : ℕ). Went keeper_right n then.steps b.pass c.pass) did.acted.journey.lane then.went);
    turn = then.turn ∙ did.turn;
    lane_is = then.lane_is ∙ did.lane_is;
  }
