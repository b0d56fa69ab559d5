use Rattle.std.proofs.Common.{◌+◌, ℕ, ap, sym, subst}
use Rattle.ms_cell.specs.GateAnswers.{IsClosedBefore}
use Rattle.pool_keeper.specs.Keeper.{IsOf}
use Rattle.pool_keeper.proofs.Sound.{closed_later}
use Rattle.pool_keeper.proofs.keeper.Keeper.commit_next.Goals as goal

pub commit_gathered-requires-clause-of : goal.commit_gathered-requires-clause-of
commit_gathered-requires-clause-of g c = subst (λ s. IsOf c.args.cells.now s) (sym c.gather.ensures.start) c.requires.of

pub commit_gathered-requires-clause-closed : goal.commit_gathered-requires-clause-closed
commit_gathered-requires-clause-closed g c =
    subst (λ (n : ℕ). IsClosedBefore c.args.cells.now.opened (n + 1) c.gather.new.self.passes.gate.seen) (sym (ap (λ s. s.table.group.0) c.gather.ensures.store))
    (closed_later c.args.cells.now.opened _ c.args.self.now.passes.gate.seen c.gather.new.self.passes.gate.seen c.gather.ensures.later c.requires.closed)
