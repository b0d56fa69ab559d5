use Rattle.std.proofs.Common.{◌≡◌, ℕ, ◌-◌, ◌<◌, ◌≤◌, Some}
use Rattle.ms_core.proofs.Words.{Origin, granted, last_act, IsLegal}
use Rattle.ms_core.proofs.looking.first_foreign.Given as goal

abbrev pub invariant-loop-at : goal.invariant-loop-at
invariant-loop-at l =
    record {
      from : l.fn.seg.start ≤ l.at;
      till : l.at ≤ l.end;
      own : (o : Origin) (u : ℕ) → IsLegal o l.notes → l.fn.seg.start ≤ u → u < l.at → last_act o l.notes u ≡ granted (Some l.lane) l.group.0;
    }

abbrev pub decreases-loop-at : goal.decreases-loop-at
decreases-loop-at l = l.end - l.at
