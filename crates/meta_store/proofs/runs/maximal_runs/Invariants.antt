use Rattle.std.proofs.Common.{ℕ, false, length}
use Rattle.std.specs.Prelude.{slice_index_or}
use Rattle.meta_store.proofs.Gathering.{Gathers}
use Rattle.meta_store.proofs.runs.maximal_runs.Given as goal

abbrev pub invariant-loop-unit : goal.invariant-loop-unit
invariant-loop-unit l = Gathers (λ (u : ℕ). slice_index_or l.held u false) (length l.held) l.start l.unit l.runs.items
