use Rattle.std.proofs.Common.{◌≡◌, ℕ, ◌<◌, length, get_or, take, false}
use Rattle.ms_core.proofs.Words.{held, Origin}
use Rattle.ms_core.proofs.holding.replay.Given as goal

abbrev pub invariant-loop-note : goal.invariant-loop-note
invariant-loop-note l =
    (o : Origin) → ((u : ℕ) → u < length l.fn.table → get_or l.fn.table u false ≡ o.base u)
    → (u : ℕ) → u < length l.fn.table → get_or l.table u false ≡ held o (take l.note-index l.notes) l.group.0 u
