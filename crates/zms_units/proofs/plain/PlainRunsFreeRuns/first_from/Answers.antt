use Rattle.zms_units.proofs.Listed.{listed_first, listed_none}
use Rattle.zms_units.proofs.plain.PlainRunsFreeRuns.first_from.Goals as goal

pub returns-clause-found : goal.returns-clause-found
returns-clause-found c = rw (← c.self.view_is) (listed_first _ _ c.self.invariant _ _ _ c.first_long.ensures)

pub returns-clause-none : goal.returns-clause-none
returns-clause-none c = rw (← c.self.view_is) (listed_none _ _ c.self.invariant _ _ _ c.first_long.ensures)
