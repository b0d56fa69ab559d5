use Rattle.std.proofs.Common.{◌≡◌, ℕ, ◌≤◌, ◌<◌, Some}
use Rattle.ms_model.specs.Units.{granted}
use Rattle.ms_model.specs.Checking.{act_at}
use Rattle.ms_model.proofs.checking.Checker.are_own.Given as goal

abbrev pub invariant-loop-unit : goal.invariant-loop-unit
invariant-loop-unit l = (u : ℕ) → l.fn.seg.start ≤ u → u < l.unit → act_at l.fn.self.lasts.items u ≡ granted (Some l.fn.lane) l.fn.group.0
