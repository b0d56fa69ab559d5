use Rattle.std.proofs.Common.{◌≡◌, length, arith, subst}
use Rattle.zms_units.specs.Segments.{covered}
use Rattle.seg_trees.specs.Sets.{nodes_of}
use Rattle.seg_trees.specs.OneSet.{OneSet}
use Rattle.seg_trees.proofs.Sizes.{nodes_of-covered}
use Rattle.seg_trees.proofs.run_vec.RunVec.nodes.Goals as goal

pub returns-clause-set : goal.returns-clause-set
returns-clause-set c =
    let count : nodes_of (covered c.self.inside.runs.items) ≡ length c.self.inside.runs.items = nodes_of-covered c.self.inside.runs.items c.self.invariant in
    let seen = subst (λ (s : OneSet). nodes_of (covered s.runs) ≡ length c.self.inside.runs.items) c.self.view_is count in
    omega (arith, seen, c.self.inside.runs.ok.0, c.len.ensures)
