-- What contracts see of the thirteen trees, and of a change of one.
use Rattle.std.proofs.Common.{◌≡◌, ℕ, ◌+◌, ◌<◌, ◌≤◌, List, length, get_or, set, map, sym, ap, subst, ◌∙◌, arith}
use Rattle.std.proofs.lemmas.List.{length-set, get_or-set_same}
use Rattle.zms_units.specs.declared.segments.Seg.{Seg}
use Rattle.zms_units.specs.Segments.{covers}
use Rattle.seg_trees.specs.Sets.{HoldsAll, IsSegment, RisesAtMost, nodes_of, size_of}
use Rattle.seg_trees.specs.Kept.{TreeLists, sets_of}
use Rattle.std.specs.Prelude.{◌&&◌, not}
use Rattle.seg_pool.specs.Pool.{Pool}
use Rattle.range_tree.specs.declared.node.RunNode.{RunNode}
use Rattle.range_tree.specs.declared.tree.Tree.{Tree}
use Rattle.range_tree.specs.Kept.{placed, runs_of, units_of, IsTree, Touches}
use Rattle.range_tree.specs.Thirteen.{AreTrees, ChangesOne, LosesRun}
use Rattle.range_tree.proofs.Among.{units_at, nodes_at, size_at, units_there, units_elsewhere, trees_after, all_used_by}

-- what contracts see of trees over a pool
abbrev pub seen : Pool RunNode → List Tree → TreeLists
seen pool trees = record { lists = map (runs_of pool) trees; spare = pool.spare }

-- each visit was counted
pub rises : (old new visits most : ℕ) → new ≡ old + visits → visits ≤ most → RisesAtMost old new most
rises old new visits most e l = (omega (arith, e), omega (arith, e, l))

module _ {pool : Pool RunNode} {trees : List Tree} (a : AreTrees pool trees) (s : TreeLists) (view : seen pool trees ≡ s) (i : ℕ) (d : Tree) (within : i < length trees) where
  pub seen_units : (u : ℕ) → units_of pool (get_or trees i d) u ≡ sets_of s.lists i u
  seen_units u = sym (units_at a i d within u) ∙ ap (λ (v : TreeLists). sets_of v.lists i u) view

  pub seen_nodes : length (placed pool (get_or trees i d)) ≡ nodes_of (sets_of s.lists i)
  seen_nodes = sym (nodes_at a i d within) ∙ ap (λ (v : TreeLists). nodes_of (sets_of v.lists i)) view

  pub seen_size : (get_or trees i d).units ≡ size_of (sets_of s.lists i)
  seen_size = sym (size_at a i d within) ∙ ap (λ (v : TreeLists). size_of (sets_of v.lists i)) view

module _ {old new : Pool RunNode} {trees : List Tree} (a : AreTrees old trees) (s : TreeLists) (view : seen old trees ≡ s) (i : ℕ) (x d : Tree) (within : i < length trees) (t : IsTree new x)
    (touch : Touches old new (placed old (get_or trees i d)) (placed new x)) where
  pub changes : ChangesOne s (seen new (set trees i x)) i
  changes =
      subst (λ v. ChangesOne v (seen new (set trees i x)) i) view
      (record {
        others = units_elsewhere a i x d within t touch;
        memory = omega (arith, all_used_by a, all_used_by (trees_after a i x d within t touch), touch.used, touch.spare);
      })

  pub seen_after : (u : ℕ) → sets_of (map (runs_of new) (set trees i x)) i u ≡ units_of new x u
  seen_after u = units_there a i x d within t touch u

  pub nodes_after : nodes_of (sets_of (map (runs_of new) (set trees i x)) i) ≡ length (placed new x)
  nodes_after =
      nodes_at (trees_after a i x d within t touch) i d (omega (arith, within, length-set trees i x)) ∙ ap (λ q. length (placed new q)) (get_or-set_same trees i x d within)

module _ {old new : Pool RunNode} {trees : List Tree} (a : AreTrees old trees) (s : TreeLists) (view : seen old trees ≡ s) (i : ℕ) (x d : Tree) (within : i < length trees) (t : IsTree new x)
    (touch : Touches old new (placed old (get_or trees i d)) (placed new x)) (run : Seg) (segment : IsSegment run) (held : HoldsAll (units_of old (get_or trees i d)) run)
    (units : (u : ℕ) → units_of new x u ≡ (not (covers run u) && units_of old (get_or trees i d) u)) (fewer : length (placed new x) + 1 ≡ length (placed old (get_or trees i d))) where
  -- a run has left the tree
  pub loses : LosesRun s (seen new (set trees i x)) i run
  loses =
      record {
        segment = segment;
        held = λ u c. sym (seen_units a s view i d within u) ∙ held u c;
        removed = λ u. seen_after a s view i x d within t touch u ∙ units u ∙ ap (λ b. not (covers run u) && b) (seen_units a s view i d within u);
        changes = changes a s view i x d within t touch;
        spare = omega (arith, touch.spare, fewer, ap (λ (v : TreeLists). v.spare) view);
        nodes = omega (arith, nodes_after a s view i x d within t touch, fewer, seen_nodes a s view i d within);
      }
