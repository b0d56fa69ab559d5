use Rattle.std.proofs.Common.{ℕ, ap, subst, arith}
use Rattle.ms_core.proofs.Words.{nat_lt, IsHistogramOf, is_vacant, totals, MsState, origin_of, as_one_run, book_in, origin_in}
use Rattle.ms_core.proofs.Bucketing.{histogram_along}
use Rattle.ms_core.proofs.Narrowing.{histogram_down}
use Rattle.ms_core.proofs.Keeping.{vacant_same}
use Rattle.ms_core.proofs.metaslab.Metaslab.vacant_runs.Goals as goal

pub returns-then-self-clause-loaded : goal.returns-then-self-clause-loaded
returns-then-self-clause-loaded g c = λ loaded.
    let m = c.self.inside in
    let k = c.self.invariant.kept in
    rw (← c.self.view_is)
    (histogram_along m.units m.ashift (g.R.SegTrees.set m.trees 0) (is_vacant (origin_in (book_in m)) m.notes.items) c.histogram.result
    (vacant_same k c.if-self.true)
    (histogram_down (g.R.SegTrees.set m.trees 0) m.units 131072 k.most (k.mirrors.within 0) m.ashift c.histogram.result c.histogram.ensures))

pub one_run-requires-clause-count : goal.one_run-requires-clause-count
one_run-requires-clause-count g c =
    omega (arith, c.vacant.ensures, totals (origin_of c.args.self.now) c.args.self.now.notes, ap (λ (s : MsState). s.units) c.self.view_is)

pub returns-clause-unloaded : goal.returns-clause-unloaded
returns-clause-unloaded g c = λ idle.
    subst (λ (s : MsState). IsHistogramOf (as_one_run (origin_of c.args.self.now) c.args.self.now.notes) s.units s.ashift c.one_run.result) c.self.view_is
    (subst (λ (v : ℕ). IsHistogramOf (λ u. nat_lt u v) c.self.inside.units c.self.inside.ashift c.one_run.result) c.vacant.ensures c.one_run.ensures)
