-- The units after a segment came in or went out, from the changes that made it.
use Rattle.std.proofs.Common.{◌≡◌, ℕ, ◌+◌, ◌-◌, ◌<◌, ◌≤◌, ◌⊎◌, inl, inr, Bool, true, false, refl, sym, ap, ◌∙◌, arith}
use Rattle.std.specs.Prelude.{◌||◌, ◌&&◌, not}
use Rattle.std.proofs.lemmas.Bool.{cases_lt, false≢true}
use Rattle.zms_units.specs.declared.segments.Seg.{Seg}
use Rattle.zms_units.specs.Segments.{end_of, covers}
use Rattle.zms_units.proofs.Covers.{covers_true, covers_yes}
use Rattle.seg_trees.specs.Sets.{HoldsAll, HoldsNone}
use Rattle.range_tree.specs.Kept.{HoldsNoneAround}

not_true : (b : Bool) → (b ≡ true → ⊥) → b ≡ false
not_true true f = absurd (f refl)
not_true false f = refl

below : (s : Seg) (u : ℕ) → u < s.start → covers s u ≡ false
below s u l = not_true (covers s u) (λ t. omega (arith, covers_true s u t))

above : (s : Seg) (u : ℕ) → end_of s ≤ u → covers s u ≡ false
above s u l = not_true (covers s u) (λ t. omega (arith, covers_true s u t))

all_out : (run l r seg s0 s1 s2 : Bool) → s1 ≡ (not l && s0) → s2 ≡ (not r && s1) → run ≡ false → l ≡ false → r ≡ false → seg ≡ false → (run || s2) ≡ (seg || s0)
all_out run l r seg s0 s1 s2 e f a b c d =
    ap (λ q. q || s2) a ∙ f ∙ ap (λ q. not q && s1) c ∙ e ∙ ap (λ q. not q && s0) b ∙ sym (ap (λ q. q || s0) d)

all_in : (run seg s0 s2 : Bool) → run ≡ true → (seg ≡ true) ⊎ (s0 ≡ true) → (run || s2) ≡ (seg || s0)
all_in run seg s0 s2 a h = ap (λ q. q || s2) a ∙ sym (held seg s0 h)
  where
    held : (x y : Bool) → (x ≡ true) ⊎ (y ≡ true) → (x || y) ≡ true
    held true y h = refl
    held false y (inl e) = absurd (false≢true e)
    held false y (inr e) = e

and_right : (a b c : Bool) → c ≡ (not a && b) → c ≡ true → b ≡ true
and_right true b c e t = absurd (false≢true (sym e ∙ t))
and_right false b c e t = sym e ∙ t

and_none : (a b c : Bool) → c ≡ (not a && b) → b ≡ false → c ≡ false
and_none true b c e f = e
and_none false b c e f = e ∙ f

module _ (set0 set1 set2 : ℕ → Bool) (seg : Seg) (start end : ℕ) (low : start ≤ seg.start) (high : end_of seg ≤ end) (none : HoldsNone set0 seg)
    (first : (u : ℕ) → set1 u ≡ (not (covers (record { start = start; count = seg.start - start }) u) && set0 u))
    (second : (u : ℕ) → set2 u ≡ (not (covers (record { start = end_of seg; count = end - end_of seg }) u) && set1 u))
    (held0 : (u : ℕ) → start ≤ u → u < seg.start → set0 u ≡ true) (held1 : (u : ℕ) → end_of seg ≤ u → u < end → set1 u ≡ true) where
  pub added : (u : ℕ) → (covers (record { start = start; count = end - start }) u || set2 u) ≡ (covers seg u || set0 u)
  added u =
      elim (cases_lt u start) [
        | inl under ↦ all_out _ _ _ _ (set0 u) (set1 u) (set2 u) (first u) (second u) (below _ u under) (below _ u under) (below _ u (omega arith)) (below seg u (omega arith))
        | inr from ↦ elim (cases_lt u seg.start) [
          | inl left ↦ all_in _ (covers seg u) (set0 u) (set2 u) (covers_yes _ u from (omega arith)) (inr (held0 u from left))
          | inr begun ↦ elim (cases_lt u (end_of seg)) [
            | inl inside ↦ all_in _ (covers seg u) (set0 u) (set2 u) (covers_yes _ u from (omega arith)) (inl (covers_yes seg u begun inside))
            | inr ended ↦ elim (cases_lt u end) [
              | inl right ↦ all_in _ (covers seg u) (set0 u) (set2 u) (covers_yes _ u from (omega arith)) (inr (and_right _ (set0 u) (set1 u) (first u) (held1 u ended right)))
              | inr over ↦ all_out _ _ _ _ (set0 u) (set1 u) (set2 u) (first u) (second u) (above _ u (omega arith)) (above _ u (omega arith)) (above _ u (omega arith)) (above seg u ended)
            ]
          ]
        ]
      ]

  pub add_around : ((u : ℕ) → start ≤ u + 1 → u < seg.start → set1 u ≡ false) → ((u : ℕ) → end_of seg ≤ u → u ≤ end → set2 u ≡ false) → HoldsNoneAround set2 (record { start = start; count = end - start })
  add_around free1 free2 u from till =
      elim (cases_lt u seg.start) [
        | inl left ↦ and_none _ (set1 u) (set2 u) (second u) (free1 u from left)
        | inr begun ↦ elim (cases_lt u (end_of seg)) [
          | inl inside ↦ and_none _ (set1 u) (set2 u) (second u) (and_none _ (set0 u) (set1 u) (first u) (none u (begun, inside)))
          | inr ended ↦ free2 u ended (omega (arith, till, low, high))
        ]
      ]

  -- nothing of the segment stands after the left side was joined
  pub still_none : HoldsNone set1 seg
  still_none u c = and_none _ (set0 u) (set1 u) (first u) (none u c)

module _ (set0 set1 set2 set3 : ℕ → Bool) (run seg : Seg) (from : run.start ≤ seg.start) (till : end_of seg ≤ end_of run) (some : 0 < seg.count)
    (held : HoldsAll set0 run) (around : HoldsNoneAround set1 run) (first : (u : ℕ) → set1 u ≡ (not (covers run u) && set0 u))
    (second : (u : ℕ) → set2 u ≡ (covers (record { start = run.start; count = seg.start - run.start }) u || set1 u))
    (third : (u : ℕ) → set3 u ≡ (covers (record { start = end_of seg; count = end_of run - end_of seg }) u || set2 u)) where
  or_false : (a b c : Bool) → c ≡ (a || b) → a ≡ false → c ≡ b
  or_false a b c e f = e ∙ ap (λ q. q || b) f

  or_true : (a b c : Bool) → c ≡ (a || b) → a ≡ true → c ≡ true
  or_true a b c e f = e ∙ ap (λ q. q || b) f

  or_kept : (a b c : Bool) → c ≡ (a || b) → b ≡ true → c ≡ true
  or_kept true b c e f = e
  or_kept false b c e f = e ∙ f

  keep : (s x : Bool) → s ≡ false → x ≡ (not s && x)
  keep s x e = sym (ap (λ q. not q && x) e)

  drop_out : (s x : Bool) → s ≡ true → false ≡ (not s && x)
  drop_out s x e = sym (ap (λ q. not q && x) e)

  pub taken : (u : ℕ) → set3 u ≡ (not (covers seg u) && set0 u)
  taken u =
      elim (cases_lt u run.start) [
        | inl under ↦ outside (below run u under) (below _ u under) (below _ u (omega arith)) (below seg u (omega arith))
        | inr begun ↦ elim (cases_lt u seg.start) [
          | inl left ↦ or_kept _ (set2 u) (set3 u) (third u) (or_true _ (set1 u) (set2 u) (second u) (covers_yes _ u begun (omega arith))) ∙ sym (held u (begun, omega arith)) ∙ keep (covers seg u) (set0 u) (below seg u left)
          | inr in_seg ↦ elim (cases_lt u (end_of seg)) [
            | inl inside ↦ or_false _ (set2 u) (set3 u) (third u) (below _ u inside) ∙ or_false _ (set1 u) (set2 u) (second u) (above _ u (omega arith)) ∙ around u (omega arith) (omega arith) ∙ drop_out (covers seg u) (set0 u) (covers_yes seg u in_seg inside)
            | inr ended ↦ elim (cases_lt u (end_of run)) [
              | inl right ↦ or_true _ (set2 u) (set3 u) (third u) (covers_yes _ u ended (omega arith)) ∙ sym (held u (begun, right)) ∙ keep (covers seg u) (set0 u) (above seg u ended)
              | inr over ↦ outside (above run u over) (above _ u (omega arith)) (above _ u (omega arith)) (above seg u ended)
            ]
          ]
        ]
      ]
    where
      outside : covers run u ≡ false → covers (record { start = run.start; count = seg.start - run.start }) u ≡ false → covers (record { start = end_of seg; count = end_of run - end_of seg }) u ≡ false → covers seg u ≡ false → set3 u ≡ (not (covers seg u) && set0 u)
      outside a b c d = or_false _ (set2 u) (set3 u) (third u) c ∙ or_false _ (set1 u) (set2 u) (second u) b ∙ first u ∙ ap (λ q. not q && set0 u) a ∙ keep (covers seg u) (set0 u) d

  pub left_around : HoldsNoneAround set1 (record { start = run.start; count = seg.start - run.start })
  left_around u l h = around u l (omega (arith, h, from, till))

  pub right_around : HoldsNoneAround set2 (record { start = end_of seg; count = end_of run - end_of seg })
  right_around u l h = or_false _ (set1 u) (set2 u) (second u) (above _ u (omega (arith, l, from, some))) ∙ around u (omega (arith, l, from, some)) (omega (arith, h, till))
