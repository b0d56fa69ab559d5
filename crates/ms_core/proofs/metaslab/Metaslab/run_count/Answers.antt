use Rattle.std.proofs.Common.{◌∙◌, sym}
use Rattle.ms_core.proofs.Words.{is_changed}
use Rattle.ms_core.proofs.Keeping.{next_count, next_none, none_count}
use Rattle.ms_core.proofs.metaslab.Metaslab.run_count.Goals as goal

pub returns-in-Some-clause-runs : goal.returns-in-Some-clause-runs
returns-in-Some-clause-runs g c =
    let next = rw (← c.self.view_is) at c.requires in
    let is = rw (← c.self.view_is) at (sym c.tree_of.ensures ∙ c.in-Some.is) in
    rw (← c.self.view_is) (c.nodes.ensures.nodes ∙ next_count c.self.invariant.kept c.args.change c.args.group c.in-Some.tree next is)

pub returns-in-None-clause-runs : goal.returns-in-None-clause-runs
returns-in-None-clause-runs g c =
    let is = rw (← c.self.view_is) at (sym c.tree_of.ensures ∙ c.in-None.is) in
    rw (← c.self.view_is) (none_count (is_changed c.args.change c.args.group.0 c.self.inside.notes.items) c.self.inside.units (next_none c.self.invariant.kept c.args.change c.args.group is))
