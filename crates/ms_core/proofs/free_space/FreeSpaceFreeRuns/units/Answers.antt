use Rattle.std.proofs.Common.{◌∙◌}
use Rattle.ms_core.proofs.Words.{all_units}
use Rattle.ms_core.proofs.Narrowing.{size_down, range_le}
use Rattle.ms_core.proofs.free_space.FreeSpaceFreeRuns.units.Goals as goal

pub returns : goal.returns
returns g c =
    let self = c.args.self.now in
    c.units.ensures ∙ size_down (g.R.SegTrees.set self.trees.now 0) self.range all_units (range_le self.range self.most) self.within
