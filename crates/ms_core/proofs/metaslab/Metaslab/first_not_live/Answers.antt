use Rattle.std.proofs.Common.{◌-◌, take, arith}
use Rattle.ms_core.proofs.Words.{in_any, book_in, origin_in}
use Rattle.ms_core.proofs.Lookback.{not_handed_out, later_trees, not_live}
use Rattle.ms_core.proofs.metaslab.Metaslab.first_not_live.Goals as goal

pub returns : goal.returns
returns g c =
    let m = c.self.inside in
    let k = c.self.invariant.kept in
    let o = origin_in (book_in m) in
    let set = g.R.SegTrees.set m.trees in
    let loaded = rw (← c.self.view_is) at c.requires.loaded in
    let open_group = rw (← c.self.view_is) at c.requires.group in
    let within = rw (← c.self.view_is) at c.requires.segment in
    let group = c.args.group.0 in
    let many = 4 - (group - m.collected.0) in
    let both =
    (not_live o m.notes.items set k.legal k.mirrors loaded group many open_group.above (omega (arith, k.collected, k.settled, k.order, open_group.near, open_group.above)) (omega (arith, k.collected, k.settled, k.order, open_group.near)) c.args.seg c.lower.result within
    (c.lower.ensures (in_any set not_handed_out) (in_any set (take many (later_trees group))) c.lowest_in-given.ensures c.lowest_in-later.ensures)) in
    record {
      found = rw (← c.self.view_is) both.0;
      none = rw (← c.self.view_is) both.1;
    }
