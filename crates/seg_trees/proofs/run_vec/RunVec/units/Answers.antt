use Rattle.std.proofs.Common.{◌∙◌, arith, ap, sym}
use Rattle.zms_units.specs.Segments.{covered, total_of}
use Rattle.zms_units.proofs.Counting.{rising_total}
use Rattle.zms_units.proofs.Maximal.{apart_rise}
use Rattle.seg_trees.specs.Sets.{size_of}
use Rattle.seg_trees.specs.OneSet.{OneSet}
use Rattle.seg_trees.proofs.Sizes.{size_of-covered}
use Rattle.seg_trees.proofs.run_vec.RunVec.units.Goals as goal

pub unit_count-requires : goal.unit_count-requires
unit_count-requires c =
    omega (arith, rising_total 0 131072 c.self.inside.runs.items (apart_rise 131072 c.self.inside.runs.items c.self.invariant), ap total_of c.deref.ensures.value)

pub returns : goal.returns
returns c =
    c.unit_count.ensures ∙ (ap total_of c.deref.ensures.value
    ∙ (sym (size_of-covered c.self.inside.runs.items c.self.invariant) ∙ ap (λ (s : OneSet). size_of (covered s.runs)) c.self.view_is))
