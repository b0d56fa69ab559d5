use Rattle.std.proofs.Common.{◌≡◌, ℕ, false, nat_le, nat_lt}
use Rattle.std.specs.Prelude.{◌&&◌, if◌then◌else◌, slice_index_or}
use Rattle.meta_store.proofs.runs.put_range.Given as goal

abbrev pub invariant-loop-unit : goal.invariant-loop-unit
invariant-loop-unit l = (u : ℕ) → slice_index_or l.held u false ≡ (if nat_le l.start u && nat_lt u l.unit then l.value else slice_index_or l.fn.held u false)
