-- What a lane did, from what its run says.
use Rattle.std.proofs.Common.{◌≡◌, List, length, sym, ap, ◌∙◌, subst, Result, Ok, Err}
use Rattle.std.specs.Prelude.{IfOk}
use Rattle.std.specs.List.{All}
use Rattle.turn_cell.specs.Known.{TableId}
use Rattle.turn_cell.specs.Lanes.{Step, Ready, Went}
use Rattle.lane_passes.specs.Lanes.{LaneEvent, Ground, IsSeated, ground_of}
use Rattle.pool_keeper.specs.Notes.{KeeperNoted, keeper_right}
use Rattle.pool_keeper.specs.Serving.{Serves}
use Rattle.pool_keeper.specs.declared.lane_keeper.LaneKeeper.{LaneKeeper}
use Rattle.cmd_text.specs.declared.script.Command.{Command}
use Rattle.lane_run.specs.Acts.{Anything, LaneDid}
use Rattle.lane_run.specs.Answers.{paired}
use Rattle.lane_run.specs.Lines.{Lines}
use Rattle.lane_run.specs.Runs.{commands_of, LaneRan}
use Rattle.pool_seats.specs.declared.pool.Pool.{Pool}
use Rattle.pool_seats.specs.declared.pool.Seat.{Seat}
use Rattle.range_tree.specs.declared.trees.RangeTrees.{RangeTrees}
use Rattle.pool_lanes.specs.declared.running.Ran.{Ran}
use Rattle.pool_lanes.specs.Running.{CanRun, RanFrom}

-- a thing of which something is known where there is an answer, and which is there in any case
told : {T E A : Type 0} (P : T → A → Type 0) (r : Result T E) → A → IfOk r (λ x. (a : A) × P x a) → (a : A) × IfOk r (λ x. P x a)
told P (Ok x) a there = there
told P (Err e) a there = (a, tt)

weaker : {T E : Type 0} (P Q : T → Type 0) (r : Result T E) → ((x : T) → P x → Q x) → IfOk r P → IfOk r Q
weaker P Q (Ok x) means is = means x is
weaker P Q (Err e) means is = tt

module _ {D : Type 0} (pool : Pool) (turn : TableId) (commands : List Command) (s : Seat D) (r : Ran D) (a b : LaneKeeper D RangeTrees) where
  -- whatever its steps were
  whatever : {Fact : Ground → List LaneEvent → List (Step KeeperNoted) → Type 0} → LaneDid pool.cells Fact s.passes r.seat.passes a b → LaneDid pool.cells Anything s.passes r.seat.passes a b
  whatever x = record {
    steps = x.steps;
    acted = record { events = x.acted.events; journey = x.acted.journey; fact = tt };
    went = x.went;
    turn = x.turn;
    lane_is = x.lane_is;
  }

  -- as the lane's run says it, between its passes and its parts of the keeper
  pub ran_from : CanRun pool turn s → a.pass ≡ s.keeper → b.pass ≡ r.seat.keeper
      → IfOk r.replies (λ replies. length replies.items ≡ length (commands_of s.passes.lane commands))
      → IfOk r.replies (λ replies. All (λ reply. reply.lane ≡ s.passes.lane) replies.items)
      → IfOk r.replies (λ replies. LaneRan pool.cells (paired (commands_of s.passes.lane commands) replies.items) s.passes r.seat.passes a b)
      → LaneDid pool.cells Anything s.passes r.seat.passes a b → IsSeated pool.cells pool.classes r.seat.passes → RanFrom pool turn commands s r
  unfolding whatever
  ran_from can begins ends each theirs ran did seated =
      let lane = s.passes.lane in
      let Whatever = LaneDid pool.cells Anything s.passes r.seat.passes a b in
      let found : (d : Whatever) × IfOk r.replies (λ replies. Lines lane (ground_of pool.cells s.passes) (paired (commands_of lane commands) replies.items) d.acted.events d.steps) =
      told (λ replies (d : Whatever). Lines lane (ground_of pool.cells s.passes) (paired (commands_of lane commands) replies.items) d.acted.events d.steps) r.replies did
      (weaker _ _ r.replies (λ replies x. (whatever x, x.acted.fact)) ran) in
      let went : Went keeper_right lane found.0.steps s.keeper r.seat.keeper =
      subst (λ k. Went keeper_right lane found.0.steps s.keeper k) ends (subst (λ k. Went keeper_right lane found.0.steps k b.pass) begins found.0.went) in
      record {
        events = found.0.acted.events;
        steps = found.0.steps;
        journey = found.0.acted.journey;
        went = went;
        seated = seated;
        ready = record { at = went.at ∙ can.ready.at; idle = went.idle; own = went.own };
        each = each;
        theirs = theirs;
        lines = found.1;
      }

module _ {D : Type 0} (pool : Pool) (turn : TableId) (s : Seat D) (k : LaneKeeper D RangeTrees) where
  -- what a lane has of the keeper as it begins
  pub serves_new : CanRun pool turn s → k.turn.now ≡ turn → k.pass ≡ s.keeper → k.lane ≡ s.passes.lane → Serves k s.passes.lane pool.cells
  serves_new can turn_is pass_is lane_is = record {
    lane_is = lane_is;
    start = can.start;
    is = ap (λ p. p.fixed) pass_is ∙ can.is;
    of = can.of;
    ready = subst (λ t. Ready keeper_right s.passes.lane t k.pass) (sym turn_is) (subst (λ p. Ready keeper_right s.passes.lane turn p) (sym pass_is) can.ready);
  }
