use Rattle.std.proofs.Common.{arith}
use Rattle.seg_trees.proofs.Places.{touches}
use Rattle.seg_trees.proofs.runs.touched.Goals as goal

pub returns : goal.returns
returns c =
    touches c.args.runs.now c.args.seg c.ended-low.result c.begun-high.result c.requires.apart c.ended-low.ensures.bound c.begun-high.ensures.bound
    (λ k d l. omega (arith, c.ended-low.ensures.below k d (omega arith) l, c.saturating_sub.ensures))
    (λ k d le l. omega (arith, c.ended-low.ensures.above k d le l, c.saturating_sub.ensures))
    (λ k d l. omega (arith, c.begun-high.ensures.below k d (omega arith) l))
    (λ k d le l. omega (arith, c.begun-high.ensures.above k d le l))
