use Rattle.std.proofs.Common.{◌∙◌}
use Rattle.ms_core.proofs.Keeping.{fitted, fitted_free, found_count}
use Rattle.ms_core.proofs.metaslab.Metaslab.fitting.Goals as goal

pub returns : goal.returns
returns g c =
    let m = c.self.inside in
    let k = c.self.invariant.kept in
    let set = g.R.SegTrees.set m.trees in
    let loaded = rw (← c.self.view_is) at c.requires.loaded in
    let open_group = rw (← c.self.view_is) at c.requires.group in
    let found = fitted k (k.loaded ∙ loaded) c.args.group.0 c.args.count c.fit.result c.requires.count.0 c.requires.count.1 open_group
    (rw (← c.new-free.ensures.trees, ← c.new-free.ensures.range) c.fit.ensures.fit) (rw (← c.new-free.ensures.trees, ← c.new-free.ensures.range) c.fit.ensures.none) in
    record {
      count = found_count _ _ _ _ c.fit.result c.args.count c.fit.ensures.fit;
      may = rw (← c.self.view_is) found.0;
      free = rw (← c.self.view_is) (fitted_free k c.args.group.0 c.fit.result found.0);
      none = rw (← c.self.view_is) found.1;
    }
