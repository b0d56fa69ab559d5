use Rattle.std.proofs.Common.{◌≡◌, ℕ, ◌<◌, length, get_or, false}
use Rattle.std.specs.Prelude.{nat_le, nat_lt, ◌&&◌, if◌then◌else◌}
use Rattle.ms_core.proofs.holding.mark.Given as goal

abbrev pub invariant-loop-unit : goal.invariant-loop-unit
invariant-loop-unit l = (u : ℕ) → u < length l.fn.table → get_or l.table u false ≡ (if nat_le l.fn.seg.start u && nat_lt u l.unit then l.held else get_or l.fn.table u false)
