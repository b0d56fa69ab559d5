use Rattle.std.proofs.Common.{◌≡◌}
use Rattle.zms_units.specs.Runs.{units_in}
use Rattle.ms_model.specs.Checking.{vacant_in}
use Rattle.ms_model.proofs.checking.Checker.vacant_count.Given as goal

abbrev pub invariant-loop-unit : goal.invariant-loop-unit
invariant-loop-unit l = l.count ≡ units_in (vacant_in l.fn.self) l.unit
