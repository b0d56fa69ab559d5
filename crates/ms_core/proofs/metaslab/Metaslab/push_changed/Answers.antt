use Rattle.std.proofs.Common.{◌∙◌, sym, arith}
use Rattle.ms_core.proofs.Words.{is_changed}
use Rattle.ms_core.proofs.Keeping.{next_count, next_runs, next_none, none_runs}
use Rattle.ms_core.proofs.metaslab.Metaslab.push_changed.Goals as goal

pub push_runs-requires-clause-room : goal.push_runs-requires-clause-room
push_runs-requires-clause-room g c =
    let next = rw (← c.self.view_is) at c.requires.group in
    let room = rw (← c.self.view_is) at c.requires.room in
    let is = rw (← c.self.view_is) at (sym c.tree_of.ensures ∙ c.in-Some.is) in
    omega (arith, next_count c.self.invariant.kept c.args.change c.args.group c.in-Some.tree next is, room)

pub returns-in-Some-clause-runs : goal.returns-in-Some-clause-runs
returns-in-Some-clause-runs g c =
    let next = rw (← c.self.view_is) at c.requires.group in
    let is = rw (← c.self.view_is) at (sym c.tree_of.ensures ∙ c.in-Some.is) in
    rw (← c.self.view_is) (next_runs c.self.invariant.kept c.args.change c.args.group c.in-Some.tree c.push_runs.new.out.items next is c.push_runs.ensures.runs)

pub returns-in_default-clause-runs : goal.returns-in_default-clause-runs
returns-in_default-clause-runs g c =
    let is = rw (← c.self.view_is) at (sym c.tree_of.ensures ∙ c.in_default.is) in
    rw (← c.self.view_is) (none_runs (is_changed c.args.change c.args.group.0 c.self.inside.notes.items) c.self.inside.units c.args.out.now.items c.requires.empty (next_none c.self.invariant.kept c.args.change c.args.group is))
