use Rattle.std.proofs.Common.{◌∙◌, List, refl, ap, subst}
use Rattle.zms_units.specs.declared.segments.Seg.{Seg}
use Rattle.zms_units.specs.Segments.{covered}
use Rattle.zms_units.specs.Weights.{IsHistogramOf, is_in_bucket}
use Rattle.zms_units.proofs.Maximal.{apart_maximal}
use Rattle.std.specs.List.{count_by}
use Rattle.seg_trees.specs.OneSet.{OneSet}
use Rattle.seg_trees.proofs.run_vec.RunVec.histogram.Goals as goal

pub returns : goal.returns
returns c =
    let runs = c.self.inside.runs.items in
    subst (λ (s : OneSet). IsHistogramOf (covered s.runs) 131072 c.args.ashift c.histogram_of.result) c.self.view_is
    (record {
      runs = runs;
      maximal = apart_maximal (covered runs) 131072 runs c.self.invariant (λ u l. refl);
      counts = λ bucket l. c.histogram_of.ensures bucket l ∙ ap (λ (rs : List Seg). count_by (is_in_bucket c.args.ashift bucket) rs) c.deref.ensures.value;
    })
