use Rattle.pool_keeper.proofs.Growing.{grows_along}
use Rattle.pool_keeper.proofs.Remembering.{remembers_grown}
use Rattle.pool_keeper.proofs.laws.remembers_at_end.Goals as goal

pub returns : goal.returns
returns c h journal low image along was =
    remembers_grown h journal low image (record { each = λ k lt. let is = along k lt in grows_along (h.origin k) (h.journal k) (journal k) is.0 is.1 }) was
