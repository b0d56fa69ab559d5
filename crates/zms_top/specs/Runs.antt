-- What a whole run of a lane's commands did.
use Rattle.std.specs.Prelude.{◌≡◌, ◌+◌, ◌≤◌, List, map, length}
use Rattle.txg_gate.specs.Closings.{closings_of}
use Rattle.ms_model.specs.Events.{Event}
use Rattle.ms_core.specs.State.{origin_of, settled_of, StaysButNotes}
use Rattle.zms_top.specs.Answers.{Replied, first_fault, last_synced}
use Rattle.zms_top.specs.Lines.{Lines}
use Rattle.zms_top.specs.Sound.{Tour, shape_of}
use Rattle.zms_top.specs.Pools.{IsPool}
use Rattle.zms_top.specs.declared.pool.Pool.{Pool}
use Rattle.zms_top.specs.declared.replies.Answer.{Answer}
use Rattle.zms_top.specs.declared.replies.Reply.{Reply}

abbrev pub answers_of : List Reply → List Answer
answers_of replies = map (λ r. r.answer) replies

-- lane 1 took a pool from one state to another by these commands, with these replies
pub record HasRun (p q : Pool) (done : List Replied) : Type 0 where
  pub events : List Event
  pub kept : List Event
  pub tour : Tour 1 events kept p.metaslab.notes q.metaslab.notes p.gate.notes q.gate.notes
  pub lines : Lines (shape_of (origin_of p.metaslab)) done events kept
  pub pool : IsPool q
  pub stays : StaysButNotes p.metaslab q.metaslab
  pub rises : closings_of 1 q.gate.notes ≤ closings_of 1 p.gate.notes + length done
  pub fault : first_fault done ≡ q.first
  pub synced : settled_of q.metaslab ≡ last_synced (settled_of p.metaslab) done
