-- A run of commands, from one to the next.
use Rattle.std.proofs.Common.{◌≡◌, ℕ, ◌+◌, List, [], ◌∷◌, ◌++◌, length, refl, ap, subst, arith}
use Rattle.ms_cell.specs.Turns.{Turns}
use Rattle.class_group.specs.Turns.{ClassTurns}
use Rattle.lane_passes.specs.Lanes.{IsSeated}
use Rattle.lane_passes.specs.declared.passes.LanePasses.{LanePasses}
use Rattle.pool_keeper.specs.Serving.{Serves}
use Rattle.pool_keeper.specs.declared.lane_keeper.LaneKeeper.{LaneKeeper}
use Rattle.cmd_text.specs.declared.script.Command.{Command}
use Rattle.lane_run.specs.Acts.{LaneDid, IsSpared}
use Rattle.lane_run.specs.Answers.{Replied, paired}
use Rattle.lane_run.specs.Lines.{WhatLine, Lines, none, more}
use Rattle.lane_run.specs.Runs.{LaneRan}
use Rattle.lane_run.specs.declared.replies.Answer.{Answer}
use Rattle.lane_run.specs.declared.replies.Reply.{Reply}
use Rattle.lane_run.proofs.Acting.{did_join, did_nothing}

-- commands with their replies

pub paired-push : (cs : List Command) (rs : List Reply) (c : Command) (r : Reply) → length cs ≡ length rs → paired (cs ++ c ∷ []) (rs ++ r ∷ []) ≡ paired cs rs ++ record { command = c; reply = r } ∷ []
paired-push [] [] c r same = refl
paired-push [] (y ∷ rs) c r same = absurd (omega (arith, same))
paired-push (x ∷ cs) [] c r same = absurd (omega (arith, same))
paired-push (x ∷ cs) (y ∷ rs) c r same = ap (λ l. record { command = x; reply = y } ∷ l) (paired-push cs rs c r (omega (arith, same)))

module _ {D R : Type 0} (t : Turns) where
  pub ran_none : (c : ClassTurns) (p : LanePasses R) (a : LaneKeeper D R) → IsSeated t c p → Serves a p.lane t → LaneRan t [] p p a a
  ran_none c p a s serves = did_nothing t c p a (λ g es ks. Lines p.lane g [] es ks) s serves none

  pub ran_more : (done : List Replied) (c : Command) (answer : Answer) (p q r : LanePasses R) (a b d : LaneKeeper D R) → c.lane ≡ p.lane → LaneRan t done p q a b
      → LaneDid t (WhatLine q.lane done c.what answer) q r b d → LaneRan t (done ++ record { command = c; reply = record { lane = c.lane; answer = answer } } ∷ []) p r a d
  ran_more done c answer p q r a b d is was did =
      let next : Replied = record { command = c; reply = record { lane = c.lane; answer = answer } } in
      did_join t (λ g es ks. Lines p.lane g done es ks) (WhatLine p.lane done c.what answer) (λ g es ks. Lines p.lane g (done ++ next ∷ []) es ks) p q r a b d
      (λ es fs ks ls x y. more done next es fs ks ls x (record { command = is; reply = is; what = y }))
      was (subst (λ (n : ℕ). LaneDid t (WhatLine n done c.what answer) q r b d) was.acted.journey.lane did)

module _ {D R : Type 0} where
  pub spared_none : (p : LanePasses R) (a : LaneKeeper D R) → IsSpared 0 p p a a
  spared_none p a = record { closings = omega arith; refusals = omega arith }

  pub spared_still : (n : ℕ) (p q : LanePasses R) (a b : LaneKeeper D R) → IsSpared n p q a b → IsSpared (n + 1) p q a b
  spared_still n p q a b was = record { closings = omega (arith, was.closings); refusals = omega (arith, was.refusals) }

  pub spared_more : (n : ℕ) (p q r : LanePasses R) (a b d : LaneKeeper D R) → IsSpared n p q a b → IsSpared 1 q r b d → IsSpared (n + 1) p r a d
  spared_more n p q r a b d was one = record { closings = omega (arith, was.closings, one.closings); refusals = omega (arith, was.refusals, one.refusals) }
