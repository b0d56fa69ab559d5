use Rattle.std.proofs.Common.{◌≡◌, ℕ, nat_le, nat_lt, length}
use Rattle.std.specs.Prelude.{◌&&◌, if◌then◌else◌}
use Rattle.ms_model.specs.Checking.{act_at, act_of}
use Rattle.ms_model.proofs.checking.Checker.put.Given as goal

abbrev pub invariant-loop-unit : goal.invariant-loop-unit
invariant-loop-unit l = record {
  len : length l.self.lasts.items ≡ length l.fn.self.lasts.items;
  acts : (u : ℕ) → act_at l.self.lasts.items u ≡ (if nat_le l.fn.seg.start u && nat_lt u l.unit then act_of l.fn.last else act_at l.fn.self.lasts.items u);
  stays : l.self ≡ record l.fn.self { lasts = l.self.lasts };
}
