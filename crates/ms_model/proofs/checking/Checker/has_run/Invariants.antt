use Rattle.std.proofs.Common.{◌≤◌, length}
use Rattle.zms_units.specs.declared.segments.Seg.{Seg}
use Rattle.zms_units.specs.Runs.{IsMaximalRun}
use Rattle.ms_model.specs.Checking.{LiesBetween, vacant_in}
use Rattle.ms_model.proofs.checking.Checker.has_run.Given as goal

abbrev pub invariant-loop-start : goal.invariant-loop-start
invariant-loop-start l =
    (run : Seg) → IsMaximalRun (vacant_in l.fn.self) (length l.fn.self.lasts.items) run
    → LiesBetween l.fn.sought.least l.fn.sought.most l.fn.sought.from l.fn.sought.below run → l.start ≤ run.start
