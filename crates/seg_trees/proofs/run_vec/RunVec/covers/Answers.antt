use Rattle.std.proofs.Common.{◌≡◌, ◌∙◌, List, ap, sym, subst}
use Rattle.std.specs.Prelude.{IsTrue}
use Rattle.zms_units.specs.declared.segments.Seg.{Seg}
use Rattle.zms_units.specs.Segments.{covered}
use Rattle.seg_trees.specs.OneSet.{OneSet}
use Rattle.seg_trees.specs.Sets.{HoldsAll}
use Rattle.seg_trees.proofs.Searches.{holder_tells}
use Rattle.seg_trees.proofs.run_vec.RunVec.covers.Goals as goal

pub returns : goal.returns
returns c =
    let t = holder_tells c.deref.result.now c.args.seg c.holder.result c.holder.ensures.some c.holder.ensures.none in
    let e : c.deref.result.now ≡ c.args.self.now.runs = c.deref.ensures.value ∙ ap (λ (s : OneSet). s.runs) c.self.view_is in
    let P : List Seg → Type 0 = λ rs. (IsTrue c.is_some.result → HoldsAll (covered rs) c.args.seg) × (HoldsAll (covered rs) c.args.seg → IsTrue c.is_some.result) in
    subst P e (λ h. t.0 (sym c.is_some.ensures ∙ h), λ h. c.is_some.ensures ∙ t.1 h)
