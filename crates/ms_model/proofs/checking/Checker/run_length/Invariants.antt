use Rattle.std.proofs.Common.{◌≡◌, ℕ, ◌≤◌, ◌<◌, true}
use Rattle.ms_model.specs.Checking.{vacant_in}
use Rattle.ms_model.proofs.checking.Checker.run_length.Given as goal

abbrev pub invariant-loop-unit : goal.invariant-loop-unit
invariant-loop-unit l = (u : ℕ) → l.fn.start ≤ u → u < l.unit → vacant_in l.fn.self u ≡ true
