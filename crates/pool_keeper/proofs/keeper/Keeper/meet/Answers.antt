use Rattle.std.proofs.Common.{sym, ap, ◌∙◌}
use Rattle.pool_keeper.proofs.keeper.Keeper.meet.Goals as goal

pub returns-in-None-clause-rest : goal.returns-in-None-clause-rest
returns-in-None-clause-rest g c = ap (λ f. record c.args.self.now { first = f }) (c.requires.idle ∙ sym c.in-None.is)
