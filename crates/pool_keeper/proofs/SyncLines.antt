-- The lines of a sync, from those of its parts.
use Rattle.std.proofs.Common.{◌≡◌, ℕ, ◌+◌, true, false, List, [], ◌∷◌, ◌++◌, refl, sym, subst, None, Result, Ok, Err}
use Rattle.std.proofs.lemmas.List.{append-nil}
use Rattle.zms_units.specs.declared.segments.Group.{Group}
use Rattle.turn_cell.specs.Lanes.{Step}
use Rattle.txg_gate.specs.declared.gate.TooMany.{TooMany}
use Rattle.ms_cell.specs.declared.answers.CloseFault.TheVariants.{TooMany as Many}
use Rattle.ms_cell.specs.Turns.{Turns}
use Rattle.ms_cell.specs.GateAnswers.{CloseAnswer}
use Rattle.lane_passes.specs.Lanes.{LaneEvent, Ground, Acted, Journey as LaneJourney}
use Rattle.lane_passes.specs.Turns.{AtGate}
use Rattle.lane_passes.specs.declared.passes.LanePasses.{LanePasses}
use Rattle.pool_keeper.specs.Lines.{SyncNoted}
use Rattle.pool_keeper.specs.Notes.{KeeperNoted}
use Rattle.pool_keeper.specs.Serving.{KeeperTurn}
use Rattle.pool_keeper.specs.Syncs.{ClosedLine, SyncLine, SyncDid, done, in_part, closed, busy, at_once, behind, cut}
use Rattle.pool_keeper.specs.SyncParts.{AllWeighedAs, OneTurn, TryAnswer, BehindLine, Did, one, tried, ahead, again, cut as behind_cut}
use Rattle.pool_keeper.specs.declared.faults.SyncFault.{SyncFault}
use Rattle.pool_keeper.specs.declared.faults.SyncFault.TheVariants.{Busy, Memory}
use Rattle.pool_keeper.specs.declared.lane_keeper.LaneKeeper.{LaneKeeper}
use Rattle.pool_keeper.proofs.SyncActs.{did_turn_then}

-- the weights behind a commit

abbrev Closing : ℕ → Group → Result Group SyncFault → Ground → List LaneEvent → List (Step KeeperNoted) → Type 0
Closing lane group result g es = OneTurn (λ t. ClosedLine lane group g t result es)

module _ {D R : Type 0} (E : Type 0) (t : Turns) (group noted : Group) (same : noted ≡ group) (p q r : LanePasses R) (a b : LaneKeeper D R) (w : LaneJourney [] p q) (turn : KeeperTurn p.lane (SyncNoted p.lane (Ok noted)) a b) where
  turn_of_it : KeeperTurn p.lane (SyncNoted p.lane (Ok group)) a b
  turn_of_it = subst (λ (d : Group). KeeperTurn p.lane (SyncNoted p.lane (Ok d)) a b) same turn

  pub closed_done : Acted t (AllWeighedAs {E = E} q.lane (Ok tt)) q r → Did t (Closing p.lane group (Ok group)) p r a b
  closed_done acted =
      did_turn_then t (Closing p.lane group (Ok group)) (SyncNoted p.lane (Ok group)) (AllWeighedAs {E = E} p.lane (Ok tt)) p q r a b (λ s es x y. one s (done es x y)) w turn_of_it
      (subst (λ (n : ℕ). Acted t (AllWeighedAs {E = E} n (Ok tt)) q r) w.lane acted)

  pub closed_in_part : (e : E) → Acted t (AllWeighedAs {E = E} q.lane (Err e)) q r → Did t (Closing p.lane group (Err Memory)) p r a b
  closed_in_part e acted =
      did_turn_then t (Closing p.lane group (Err Memory)) (SyncNoted p.lane (Ok group)) (AllWeighedAs {E = E} p.lane (Err e)) p q r a b (λ s es x y. one s (in_part es x y)) w turn_of_it
      (subst (λ (n : ℕ). Acted t (AllWeighedAs {E = E} n (Err e)) q r) w.lane acted)

-- a try

pub closed_tried : (lane : ℕ) (group : Group) (result : Result Group SyncFault) (g : Ground) (es fs : List LaneEvent) (steps : List (Step KeeperNoted)) → AtGate (CloseAnswer g.opened lane (Ok group)) g es
    → Closing lane group result g fs steps → TryAnswer lane g (Ok result) (es ++ fs) steps
closed_tried lane group result g es fs _ at (one t line) = tried result (es ++ fs) (t ∷ []) (λ x. closed group result es fs t at line)

-- and a second one

module _ (lane : ℕ) (many : TooMany) (g : Ground) (last : Group) (below : last.0 + 1 ≡ many.open_group.0) (s : Step KeeperNoted) (noted : SyncNoted lane (Ok last) s.before s.note) where
  pub tried_again : (result : Result Group SyncFault) (es : List LaneEvent) (steps : List (Step KeeperNoted)) → TryAnswer lane g (Ok result) es steps → BehindLine lane many g result es (s ∷ steps)
  tried_again result es steps (tried _ _ _ line) = again last result es s steps below noted (line true)

  pub busy_again : (still : TooMany) (es : List LaneEvent) (steps : List (Step KeeperNoted)) → TryAnswer lane g (Err still) es steps → BehindLine lane many g (Err (Busy still.open_group still.synced)) es (s ∷ steps)
  busy_again still es steps (ahead _ _ at) = again last (Err (Busy still.open_group still.synced)) es s [] below noted (busy still es refl at)

-- the whole, behind the first turn at the keeper

abbrev pub AfterMeeting : ℕ → Result Group SyncFault → Ground → List LaneEvent → List (Step KeeperNoted) → Type 0
AfterMeeting lane result g es steps = (s : Step KeeperNoted) → s.note ≡ None → SyncLine lane g result es (s ∷ steps)

pub after_try : (lane : ℕ) (result : Result Group SyncFault) (g : Ground) (es : List LaneEvent) (steps : List (Step KeeperNoted)) → TryAnswer lane g (Ok result) es steps → AfterMeeting lane result g es steps
after_try lane result g es steps (tried _ _ _ line) = λ s quiet. at_once result es s steps quiet (line false)

module _ (lane : ℕ) (many : TooMany) (g : Ground) where
  behind_it : (result : Result Group SyncFault) (es fs : List LaneEvent) (steps : List (Step KeeperNoted)) → AtGate (CloseAnswer g.opened lane (Err (Many many))) g es → BehindLine lane many g result fs steps
      → AfterMeeting lane result g (es ++ fs) steps
  behind_it result es fs _ at (again group _ _ t steps below noted line) = λ s quiet. behind group many result es fs s t steps quiet at below noted line
  behind_it _ es _ _ at (behind_cut fault t noted) = λ s quiet. subst (λ (l : List LaneEvent). SyncLine lane g (Err fault) l (s ∷ t ∷ [])) (sym (append-nil es)) (cut many fault es s t quiet at noted)

  pub after_behind : (result : Result Group SyncFault) (es fs : List LaneEvent) (ss ts : List (Step KeeperNoted)) → TryAnswer lane g (Err many) es ss → BehindLine lane many g result fs ts
      → AfterMeeting lane result g (es ++ fs) (ss ++ ts)
  after_behind result es fs _ ts (ahead _ _ at) line = behind_it result es fs ts at line

pub sync_did : {D R : Type 0} (t : Turns) (result : Result Group SyncFault) (p q : LanePasses R) (a b : LaneKeeper D R) → Did t (λ g. SyncLine p.lane g result) p q a b → SyncDid t p.lane result p q a b
sync_did t result p q a b did = record { steps = did.steps; acted = did.acted; went = did.went; turn = did.turn; lane_is = did.lane_is; count = did.count; last = did.last }
