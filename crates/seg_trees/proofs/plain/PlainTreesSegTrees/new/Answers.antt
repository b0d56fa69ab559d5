use Rattle.std.proofs.Common.{◌≡◌, ℕ, ◌<◌, length, get_or, rules, arith}
use Rattle.seg_trees.specs.OneSet.{OneSet}
use Rattle.seg_trees.proofs.Elements.{runs_none, empty_whole}
use Rattle.seg_trees.proofs.plain.PlainTreesSegTrees.new.Goals as goal

pub invariant_of-result : goal.invariant_of-result
invariant_of-result c =
    let none : (i : ℕ) (d : OneSet) → i < length c.from_fn.result → length (get_or c.from_fn.result i d).runs ≡ 0 =
    (λ i d l. let t = c.from_fn.ensures.items.at i d (omega (arith, c.from_fn.ensures.items.long)) in search (rules, t.2)) in
    record {
      most = omega arith;
      fits = omega (arith, runs_none c.from_fn.result none);
      room = λ k d l. omega arith;
      buffer_room = omega arith;
      whole = λ i d l. empty_whole _ (none i d l);
    }
