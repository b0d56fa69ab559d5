use Rattle.std.proofs.Common.{◌≤◌, ◌+◌, ◌^◌, sym, ap, arith, subst}
use Rattle.seg_trees.specs.Sets.{all_nodes}
use Rattle.seg_trees.specs.Kept.{TreeLists, sets_of, lists_of}
use Rattle.seg_trees.proofs.Elements.{all_nodes-is, runs_in_same, whole_same}
use Rattle.seg_trees.proofs.plain.PlainTreesSegTrees.reserve.Goals as goal

pub invariant_of-self : goal.invariant_of-self
invariant_of-self c =
    record {
      most = c.self.invariant.most;
      fits = omega (arith, c.self.invariant.fits, runs_in_same c.reserve_each.new.trees c.self.inside.trees c.reserve_each.ensures.lists);
      room = c.reserve_each.ensures.capacity c.self.inside.limit c.self.invariant.room;
      buffer_room = c.self.invariant.buffer_room;
      whole = whole_same c.reserve_each.new.trees c.self.inside.trees c.reserve_each.ensures.lists c.self.invariant.whole;
    }

pub returns-in_err-reserve_each-clause-spare : goal.returns-in_err-reserve_each-clause-spare
returns-in_err-reserve_each-clause-spare c =
    omega (arith, ap (λ (s : TreeLists). s.spare) c.self.view_is, runs_in_same c.reserve_each.new.trees c.self.inside.trees c.reserve_each.ensures.lists)

pub invariant_of-self-in_err-reserve : goal.invariant_of-self-in_err-reserve
invariant_of-self-in_err-reserve c =
    record {
      most = c.self.invariant.most;
      fits = omega (arith, c.self.invariant.fits, runs_in_same c.reserve_each.new.trees c.self.inside.trees c.reserve_each.ensures.lists);
      room = c.reserve_each.ensures.capacity c.self.inside.limit c.self.invariant.room;
      buffer_room = omega (arith, c.self.invariant.buffer_room, c.reserve.ensures.capacity);
      whole = whole_same c.reserve_each.new.trees c.self.inside.trees c.reserve_each.ensures.lists c.self.invariant.whole;
    }

pub returns-in_err-reserve-clause-spare : goal.returns-in_err-reserve-clause-spare
returns-in_err-reserve-clause-spare c =
    omega (arith, ap (λ (s : TreeLists). s.spare) c.self.view_is, runs_in_same c.reserve_each.new.trees c.self.inside.trees c.reserve_each.ensures.lists)

pub invariant_of-self-2 : goal.invariant_of-self-2
invariant_of-self-2 c =
    let most : all_nodes (sets_of (lists_of c.self.inside.trees)) + c.args.n ≤ 2 ^ 24 = subst (λ (s : TreeLists). all_nodes (sets_of s.lists) + c.args.n ≤ 2 ^ 24) (sym c.self.view_is) c.requires.most in
    record {
      most = omega (arith, c.self.invariant.most, most, all_nodes-is c.self.inside.trees (omega arith) c.total.ensures.nodes, c.max-limit.ensures, c.total.ensures.sum);
      fits = omega (arith, c.self.invariant.fits, runs_in_same c.reserve_each.new.trees c.self.inside.trees c.reserve_each.ensures.lists, c.max-limit.ensures);
      room = c.in_ok-reserve_each.ensures.ok;
      buffer_room = c.in_ok-reserve.ensures.ok;
      whole = whole_same c.reserve_each.new.trees c.self.inside.trees c.reserve_each.ensures.lists c.self.invariant.whole;
    }

pub returns-clause-enough : goal.returns-clause-enough
returns-clause-enough c =
    omega (arith, runs_in_same c.reserve_each.new.trees c.self.inside.trees c.reserve_each.ensures.lists, c.max-limit.ensures, c.total.ensures.sum)

pub returns-clause-spare : goal.returns-clause-spare
returns-clause-spare c =
    omega (arith, ap (λ (s : TreeLists). s.spare) c.self.view_is, runs_in_same c.reserve_each.new.trees c.self.inside.trees c.reserve_each.ensures.lists, c.max-limit.ensures)
