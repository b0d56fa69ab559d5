-- Loads of a lane, one after the other: that they are what a `Loader` owes.
use Rattle.std.proofs.Common.{◌≡◌, ℕ, ◌+◌, ◌-◌, ◌^◌, ◌≤◌, Option, Some, List, [], ◌∷◌, ◌++◌, length, refl, sym, ◌∙◌, ap, subst, arith, length-append}
use Rattle.std.specs.Prelude.{min}
use Rattle.turn_cell.specs.Lanes.{Step, Ready, Went}
use Rattle.turn_cell.proofs.Lanes.{ready_after, went_none, went_both}
use Rattle.ms_cell.specs.declared.loader.LoadFault.{LoadFault}
use Rattle.ms_cell.specs.Turns.{Turns}
use Rattle.pool_keeper.specs.Notes.{KeeperNoted, keeper_right}
use Rattle.pool_keeper.specs.Serving.{AreRefused, last_of, Serves, Follows}
use Rattle.pool_keeper.specs.declared.lane_keeper.LaneKeeper.{LaneKeeper}

refused_both : (lane : ℕ) (ss : List (Step KeeperNoted)) (fs : List LoadFault) (ts : List (Step KeeperNoted)) (gs : List LoadFault) → AreRefused lane ss fs → AreRefused lane ts gs → AreRefused lane (ss ++ ts) (fs ++ gs)
refused_both lane [] [] ts gs first then = then
refused_both lane (s ∷ ss) (f ∷ fs) ts gs first then = (first.0, refused_both lane ss fs ts gs first.1 then)
refused_both lane [] (f ∷ fs) ts gs first then = absurd first
refused_both lane (s ∷ ss) [] ts gs first then = absurd first

last_both : (last : Option LoadFault) (fs gs : List LoadFault) → last_of last (fs ++ gs) ≡ last_of (last_of last fs) gs
last_both last [] gs = refl
last_both last (f ∷ fs) gs = last_both (Some f) fs gs

module _ {D R : Type 0} where
  pub serves_along : (a b : LaneKeeper D R) (lane : ℕ) (t : Turns) → Serves a lane t → Follows a b → Serves b lane t
  serves_along a b lane t was along =
      let ready : Ready keeper_right a.lane a.turn.now a.pass = subst (λ (n : ℕ). Ready keeper_right n a.turn.now a.pass) (sym was.lane_is) was.ready in
      let after : Ready keeper_right a.lane a.turn.now b.pass = ready_after keeper_right a.lane a.turn.now along.steps a.pass b.pass ready (along.went ready) in
      record {
        lane_is = along.lane ∙ was.lane_is;
        start = was.start;
        is = (along.went ready).fixed ∙ was.is;
        of = was.of;
        ready = subst (λ x. Ready keeper_right lane x b.pass) (sym along.turn) (subst (λ (n : ℕ). Ready keeper_right n a.turn.now b.pass) was.lane_is after);
      }

  pub follows_itself : (a : LaneKeeper D R) → Follows a a
  follows_itself a = record {
    turn = refl;
    lane = refl;
    steps = [];
    refused = [];
    went = λ ready. went_none keeper_right a.lane a.turn.now a.pass ready;
    loads = tt;
    count = λ low. omega arith;
    last = refl;
  }

  pub follows_along : (a b c : LaneKeeper D R) → Follows a b → Follows b c → Follows a c
  follows_along a b c first then = record {
    turn = then.turn ∙ first.turn;
    lane = then.lane ∙ first.lane;
    steps = first.steps ++ then.steps;
    refused = first.refused ++ then.refused;
    went = λ ready.
        let after : Ready keeper_right a.lane a.turn.now b.pass = ready_after keeper_right a.lane a.turn.now first.steps a.pass b.pass ready (first.went ready) in
        let there : Ready keeper_right b.lane b.turn.now b.pass = subst (λ (n : ℕ). Ready keeper_right n b.turn.now b.pass) (sym first.lane) (subst (λ x. Ready keeper_right a.lane x b.pass) (sym first.turn) after) in
        went_both keeper_right a.lane first.steps then.steps a.pass b.pass c.pass (first.went ready) (subst (λ (n : ℕ). Went keeper_right n then.steps b.pass c.pass) first.lane (then.went there));
    loads = refused_both a.lane first.steps first.refused then.steps then.refused first.loads (subst (λ (n : ℕ). AreRefused n then.steps then.refused) first.lane then.loads);
    count = λ low. count_both low;
    last = then.last ∙ (ap (λ (l : Option LoadFault). last_of l then.refused) first.last ∙ sym (last_both a.last first.refused then.refused));
  } where
    count_both : a.refusals ≤ 2 ^ 64 - 1 → c.refusals ≡ min (a.refusals + length (first.refused ++ then.refused)) (2 ^ 64 - 1)
    count_both low =
        let one : b.refusals ≡ min (a.refusals + length first.refused) (2 ^ 64 - 1) = first.count low in
        let two : c.refusals ≡ min (b.refusals + length then.refused) (2 ^ 64 - 1) = then.count (omega (arith, one)) in
        omega (arith, one, two, length-append first.refused then.refused)
