-- Changes one after another, and what stands beside a segment.
use Rattle.std.proofs.Common.{◌≡◌, ◌≢◌, ℕ, suc, ◌+◌, ◌-◌, ◌<◌, ◌≤◌, ◌⊎◌, inl, inr, Bool, true, false, Option, Some, None, IsSome, List, [], ◌∷◌, refl, sym, ap, subst, ◌∙◌, arith, Contains, true≢false}
use Rattle.std.specs.Prelude.{◌||◌, ◌&&◌, not}
use Rattle.std.proofs.lemmas.Bool.{cases_lt, cases_eq, false≢true}
use Rattle.zms_units.specs.declared.segments.Seg.{Seg}
use Rattle.zms_units.specs.Segments.{end_of, covers}
use Rattle.zms_units.proofs.Covers.{covers_true}
use Rattle.seg_trees.specs.Sets.{HoldsNone, IsSegment}
use Rattle.seg_pool.specs.Pool.{Pool, node_at}
use Rattle.seg_order.specs.Lists.{Each, IsApart}
use Rattle.seg_order.proofs.Apart.{Each-weaker, Each-in}
use Rattle.range_tree.specs.declared.node.RunNode.{RunNode}
use Rattle.range_tree.specs.declared.tree.Tree.{Tree}
use Rattle.seg_order.proofs.Heights.{all_used}
use Rattle.range_tree.specs.Nodes.{place_rules}
use Rattle.range_tree.specs.Kept.{seg_at, placed, units_of, IsTree, Touches, HoldsNoneAround}
use Rattle.range_tree.specs.Found.{IsFirstEnding}
use Rattle.range_tree.proofs.Putting.{each_itself}
use Rattle.range_tree.proofs.Finding.{unit_found, listed_maximal}

pub in_or_apart : (k : ℕ) (xs : List ℕ) → Contains xs k ⊎ IsApart k xs
in_or_apart k [] = inr tt
in_or_apart k (x ∷ xs) =
    elim (cases_eq x k) [
      | inl same ↦ inl (0, omega arith, same)
      | inr differs ↦ elim (in_or_apart k xs) [ inl later ↦ inl (suc later.0, omega (arith, later.1), later.2) | inr apart ↦ inr (differs, apart) ]
    ]

none_or_some : {X : Type 0} (o : Option X) → (o ≡ None) ⊎ IsSome o
none_or_some None = inl refl
none_or_some (Some x) = inr refl

-- two changes of one tree are one
pub touches_then : {first second third : Pool RunNode} {one two three : List ℕ} → Touches first second one two → Touches second third two three → Touches first third one three
touches_then {first} {second} {third} {one} {two} {three} p q =
    record {
      kept = λ k present apart.
          let same = p.kept k present apart in
          let apart_two : IsApart k two = Each-weaker (λ at. Contains one at ⊎ (node_at first at ≡ None)) (λ j. j ≡ k → ⊥)
          (λ j c e. elim c [ inl listed ↦ Each-in (λ i. i ≡ k → ⊥) one j apart listed e | inr vacant ↦ true≢false (sym (subst IsSome (ap (node_at first) (sym e) ∙ vacant) present)) ]) two p.fresh in
          q.kept k (subst IsSome (sym same) present) apart_two ∙ same;
      fresh = Each-weaker (λ at. Contains two at ⊎ (node_at second at ≡ None)) (λ at. Contains one at ⊎ (node_at first at ≡ None)) (λ k c. elim c [
        | inl listed ↦ Each-in (λ at. Contains one at ⊎ (node_at first at ≡ None)) two k p.fresh listed
        | inr vacant ↦ elim (in_or_apart k one) [
          | inl listed ↦ inl listed
          | inr apart ↦ elim (none_or_some (node_at first k)) [
            | inl none ↦ inr none
            | inr present ↦ absurd (true≢false (sym (subst IsSome (sym (p.kept k present apart) ∙ vacant) present)))
          ]
        ]
      ]) three q.fresh;
      used = omega (arith, p.used, q.used);
      spare = omega (arith, p.spare, q.spare);
    }

pub touches_none : (pool : Pool RunNode) (list : List ℕ) → Touches pool pool list list
touches_none pool list =
    record {
      kept = λ k present apart. refl;
      fresh = Each-weaker (Contains list) (λ at. Contains list at ⊎ (node_at pool at ≡ None)) (λ k c. inl c) list (each_itself list);
      used = refl;
      spare = refl;
    }

not_true : (b : Bool) → (b ≡ true → ⊥) → b ≡ false
not_true true f = absurd (f refl)
not_true false f = refl

-- an empty segment covers nothing
pub empty_covers : (start u : ℕ) (seg : Seg) → seg.count ≡ 0 → covers seg u ≡ false
empty_covers start u seg e = not_true (covers seg u) (λ t. let c = covers_true seg u t in omega (arith, c, e))

pub not_empty : (seg : Seg) (u : ℕ) (b : Bool) → seg.count ≡ 0 → b ≡ (not (covers seg u) && b)
not_empty seg u b e = ap (λ q. not q && b) (sym (empty_covers 0 u seg e))

pub or_empty : (seg : Seg) (u : ℕ) (b : Bool) → seg.count ≡ 0 → b ≡ (covers seg u || b)
or_empty seg u b e = ap (λ q. q || b) (sym (empty_covers 0 u seg e))

module _ {pool : Pool RunNode} {tree : Tree} (t : IsTree pool tree) (seg : Seg) (s : IsSegment seg) (none : HoldsNone (units_of pool tree) seg) where
  none_at : (u : ℕ) → seg.start ≤ u → u < end_of seg → units_of pool tree u ≡ true → ⊥
  none_at u l h e = false≢true (sym (none u (l, h)) ∙ e)

  -- no run ends where the segment starts
  pub left_free : (at : ℕ) → IsFirstEnding pool tree seg.start at → end_of (seg_at pool at) ≢ seg.start → (u : ℕ) → seg.start ≤ u + 1 → u < seg.start → units_of pool tree u ≡ false
  left_free at f differs u l h =
      not_true (units_of pool tree u) (λ e.
      let w = unit_found t u e in
      elim (Each-in (λ one. (end_of (seg_at pool one) < seg.start) ⊎ ((seg_at pool at).start ≤ (seg_at pool one).start)) (placed pool tree) w.0 f.others w.1) [
        | inl before ↦ omega (arith, before, w.2)
        | inr behind ↦ none_at seg.start (omega arith) (omega (arith, s.some)) ((listed_maximal t at f.listed).inside seg.start (omega (arith, behind, w.2), longer (cases_lt seg.start (end_of (seg_at pool at))) differs f.reaches))
      ])
    where
      longer : {a b : ℕ} → (a < b) ⊎ (b ≤ a) → b ≢ a → a ≤ b → a < b
      longer (inl l) d r = l
      longer (inr l) d r = absurd (d (omega arith))

  pub left_free_none : Each (λ one. end_of (seg_at pool one) < seg.start) (placed pool tree) → (u : ℕ) → seg.start ≤ u + 1 → u < seg.start → units_of pool tree u ≡ false
  left_free_none f u l h =
      not_true (units_of pool tree u) (λ e. let w = unit_found t u e in omega (arith, w.2, Each-in (λ one. end_of (seg_at pool one) < seg.start) (placed pool tree) w.0 f w.1))

  -- no run starts where the segment ends
  pub right_free : (at : ℕ) → IsFirstEnding pool tree (end_of seg + 1) at → (seg_at pool at).start ≢ end_of seg → (u : ℕ) → end_of seg ≤ u → u ≤ end_of seg → units_of pool tree u ≡ false
  right_free at f differs u l h =
      not_true (units_of pool tree u) (λ e.
      let w = unit_found t u e in
      elim (Each-in (λ one. (end_of (seg_at pool one) < end_of seg + 1) ⊎ ((seg_at pool at).start ≤ (seg_at pool one).start)) (placed pool tree) w.0 f.others w.1) [
        | inl before ↦ omega (arith, before, w.2)
        | inr behind ↦
            let low = lower (cases_lt (seg_at pool at).start (end_of seg)) differs (omega (arith, behind, w.2)) in
            none_at (end_of seg - 1) (omega (arith, s.some)) (omega (arith, s.some)) ((listed_maximal t at f.listed).inside (end_of seg - 1) (omega (arith, low), omega (arith, f.reaches)))
      ])
    where
      lower : {a b : ℕ} → (a < b) ⊎ (b ≤ a) → a ≢ b → a ≤ b → a < b
      lower (inl l) d r = l
      lower (inr l) d r = absurd (d (omega arith))

  pub right_free_none : Each (λ one. end_of (seg_at pool one) < end_of seg + 1) (placed pool tree) → (u : ℕ) → end_of seg ≤ u → u ≤ end_of seg → units_of pool tree u ≡ false
  right_free_none f u l h =
      not_true (units_of pool tree u) (λ e. let w = unit_found t u e in omega (arith, w.2, Each-in (λ one. end_of (seg_at pool one) < end_of seg + 1) (placed pool tree) w.0 f w.1))

-- where the first run that ends at a segment's start or behind it starts behind its end, the segment touches none
module _ {pool : Pool RunNode} {tree : Tree} (t : IsTree pool tree) (seg : Seg) where
  pub alone_before : (at : ℕ) → IsFirstEnding pool tree seg.start at → end_of seg < (seg_at pool at).start → HoldsNoneAround (units_of pool tree) seg
  alone_before at f behind u l h =
      not_true (units_of pool tree u) (λ e.
      let w = unit_found t u e in
      elim (Each-in (λ one. (end_of (seg_at pool one) < seg.start) ⊎ ((seg_at pool at).start ≤ (seg_at pool one).start)) (placed pool tree) w.0 f.others w.1) [
        | inl before ↦ omega (arith, before, w.2)
        | inr later ↦ omega (arith, later, w.2, behind)
      ])

  pub alone_last : Each (λ one. end_of (seg_at pool one) < seg.start) (placed pool tree) → HoldsNoneAround (units_of pool tree) seg
  alone_last f u l h =
      not_true (units_of pool tree u) (λ e. let w = unit_found t u e in omega (arith, w.2, Each-in (λ one. end_of (seg_at pool one) < seg.start) (placed pool tree) w.0 f w.1))

-- the units of a run, named by where it begins and ends
pub covers_named : (run : Seg) (start end u : ℕ) → run.start ≡ start → end_of run ≡ end → covers run u ≡ covers (record { start = start; count = end - start }) u
covers_named run start end u e f =
    let count : run.count ≡ end - start = omega (arith, e, f) in
    ap (λ n. covers (record { start = n; count = run.count }) u) e ∙ ap (λ n. covers (record { start = start; count = n }) u) count

pub listed_used : {pool : Pool RunNode} {tree : Tree} → IsTree pool tree → (k : ℕ) → Contains (placed pool tree) k → IsSome (node_at pool k)
listed_used {pool} {tree} t k c = Each-in (λ q. IsSome (node_at pool q)) (placed pool tree) k (all_used place_rules pool tree.places.root t.places.stands) c
