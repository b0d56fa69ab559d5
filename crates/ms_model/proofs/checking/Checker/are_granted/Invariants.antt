use Rattle.std.proofs.Common.{ℕ, ◌≤◌, ◌<◌}
use Rattle.ms_model.specs.Legal.{IsGrantedBy}
use Rattle.ms_model.specs.Checking.{act_at}
use Rattle.ms_model.proofs.checking.Checker.are_granted.Given as goal

abbrev pub invariant-loop-unit : goal.invariant-loop-unit
invariant-loop-unit l = (u : ℕ) → l.fn.seg.start ≤ u → u < l.unit → IsGrantedBy l.fn.group.0 (act_at l.fn.self.lasts.items u)
