-- An order that has no node yet, and two trees that share no unit.
use Rattle.std.proofs.Common.{◌≡◌, ℕ, ◌<◌, ◌≤◌, ◌+◌, Bool, true, false, Option, None, [], refl, sym, ap, subst, ◌∙◌, arith}
use Rattle.std.specs.Prelude.{◌||◌}
use Rattle.std.proofs.lemmas.Bool.{false≢true}
use Rattle.zms_units.specs.declared.segments.Seg.{Seg}
use Rattle.zms_units.specs.Segments.{end_of, covers}
use Rattle.zms_units.proofs.Covers.{covers_true}
use Rattle.seg_pool.specs.declared.NodeNo.{NodeNo}
use Rattle.seg_pool.specs.Pool.{Pool}
use Rattle.seg_order.specs.Rules.{Rules}
use Rattle.seg_order.specs.Trees.{IsSorted, IsOver, Differs, nodes_from}
use Rattle.seg_order.proofs.Standing.{none_stands, none_empty}

module _ {N : Type 0} (rules : Rules N) (pool : Pool N) (root : Option NodeNo) (none : root ≡ None) where
  pub new_over : IsOver rules pool root
  new_over =
      subst (IsOver rules pool) (sym none) (record { stands = none_stands rules pool; sorted = subst (IsSorted rules pool) (sym (none_empty rules pool)) tt })

  pub new_differs : (at : ℕ) → Differs rules pool at (nodes_from rules pool root)
  new_differs at = subst (Differs rules pool at) (sym (ap (nodes_from rules pool) none ∙ none_empty rules pool)) tt

not_true : (b : Bool) → (b ≡ true → ⊥) → b ≡ false
not_true true f = absurd (f refl)
not_true false f = refl

-- a segment before another shares no unit with it
pub apart_covers : (first second : Seg) (u : ℕ) → end_of first ≤ second.start → covers first u ≡ true → covers second u ≡ false
apart_covers first second u l e = not_true (covers second u) (λ t. omega (arith, l, covers_true first u e, covers_true second u t))

-- what two empty trees have after a segment came into each
pub apart_sets : (first second : Seg) (u : ℕ) (one two old_one old_two : Bool) → end_of first ≤ second.start → old_one ≡ false → old_two ≡ false → one ≡ (covers first u || old_one) → two ≡ (covers second u || old_two) → one ≡ true → two ≡ false
apart_sets first second u one two old_one old_two l a b e f t =
    f ∙ by_first (covers first u) refl
  where
    or_false : (x y : Bool) → y ≡ false → (x || y) ≡ x
    or_false true y h = refl
    or_false false y h = h

    by_first : (x : Bool) → covers first u ≡ x → (covers second u || old_two) ≡ false
    by_first true h = or_false (covers second u) old_two b ∙ apart_covers first second u l h
    by_first false h = absurd (false≢true (sym (e ∙ or_false (covers first u) old_one a ∙ h) ∙ t))
