use Rattle.std.proofs.Common.{◌≡◌, ℕ, ◌+◌, ◌<◌, ◌≤◌, take, length}
use Rattle.ms_core.proofs.Words.{Origin, last_act}
use Rattle.ms_core.proofs.looking.own_front.Given as goal

abbrev pub invariant-loop-i : goal.invariant-loop-i
invariant-loop-i l =
    record {
      place : l.i ≤ length l.notes;
      some : 0 < l.count;
      within : l.count ≤ l.seg.count;
      rest : (o : Origin) (u : ℕ) → l.seg.start ≤ u → u < l.seg.start + l.count → last_act o l.notes u ≡ last_act o (take l.i l.notes) u;
    }

abbrev pub decreases-loop-i : goal.decreases-loop-i
decreases-loop-i l = l.i
