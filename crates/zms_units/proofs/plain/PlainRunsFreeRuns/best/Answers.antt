use Rattle.std.proofs.Common.{sym, ◌∙◌}
use Rattle.zms_units.proofs.Listed.{listed_short, listed_best, listed_some}
use Rattle.zms_units.proofs.plain.PlainRunsFreeRuns.best.Goals as goal

pub returns-in_err-shortest-clause-none : goal.returns-in_err-shortest-clause-none
returns-in_err-shortest-clause-none c =
    rw (c.from_residual.ensures, ← c.self.view_is) (listed_short _ _ c.self.invariant _ (sym c.shortest_count.ensures ∙ c.in_err-shortest.was))

pub returns-clause-found : goal.returns-clause-found
returns-clause-found c =
    rw (← c.self.view_is) (listed_best _ _ c.self.invariant _ _ _ (sym c.shortest_count.ensures ∙ c.in_ok-shortest.was) c.first_of.ensures)

pub returns-clause-none : goal.returns-clause-none
returns-clause-none c =
    rw (← c.self.view_is) (listed_some _ _ c.self.invariant _ _ _ (sym c.shortest_count.ensures ∙ c.in_ok-shortest.was) c.first_of.ensures)
