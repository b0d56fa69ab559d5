use Rattle.std.proofs.Common.{rules, sym}
use Rattle.zms_units.proofs.Rows.{none_in_row}
use Rattle.fit_rule.proofs.fit.Goals as goal

pub returns-in_err-run-clause-none : goal.returns-in_err-run-clause-none
returns-in_err-run-clause-none g c = rw c.from_residual.ensures (none_in_row _ _ _ c.requires.count.0 (c.in_err-run.ensures.none))

pub returns-clause-fit : goal.returns-clause-fit
returns-clause-fit g c = rw (sym c.cursor_place.ensures.place) (search rules)
