-- The runs at a list of places, with one place more or less.
use Rattle.std.proofs.Common.{◌≡◌, ℕ, ◌+◌, ◌-◌, ◌<◌, ◌≤◌, ◌⊎◌, inl, inr, max, Bool, true, false, List, [], ◌∷◌, ◌++◌, length, map, refl, sym, ap, ◌∙◌, arith}
use Rattle.std.specs.Prelude.{◌||◌}
use Rattle.std.specs.List.{sum_by}
use Rattle.std.proofs.lemmas.Bool.{cases_lt, false≢true}
use Rattle.std.proofs.lemmas.List.Sums.{sum_by-cons}
use Rattle.zms_units.specs.declared.segments.Seg.{Seg}
use Rattle.zms_units.specs.Segments.{end_of, covers, covered}
use Rattle.zms_units.specs.Apart.{AreApartFrom}
use Rattle.zms_units.proofs.Covers.{covers_true, covers_yes}
use Rattle.seg_order.specs.Lists.{Each}
use Rattle.range_tree.specs.Kept.{HoldsNoneAround}

-- one run ends before another begins, with a unit between
abbrev pub IsClear : Seg → Seg → Type 0
IsClear run r = (end_of r < run.start) ⊎ (end_of run < r.start)

or_swap : (a b c : Bool) → (a || (b || c)) ≡ (b || (a || c))
or_swap true true c = refl
or_swap true false c = refl
or_swap false true c = refl
or_swap false false c = refl

or_left : (a b : Bool) → (a || b) ≡ false → a ≡ false
or_left true b e = e
or_left false b e = refl

or_right : (a b : Bool) → (a || b) ≡ false → b ≡ false
or_right true b e = absurd (false≢true (sym e))
or_right false b e = e

module _ (seg : ℕ → Seg) where
  pub sum_put : (f : Seg → ℕ) (front back : List ℕ) (at : ℕ) → sum_by f (map seg (front ++ at ∷ back)) ≡ sum_by f (map seg (front ++ back)) + f (seg at)
  sum_put f [] back at = omega (arith, sum_by-cons f (seg at) (map seg back))
  sum_put f (x ∷ xs) back at =
      omega (arith, sum_by-cons f (seg x) (map seg (xs ++ at ∷ back)), sum_by-cons f (seg x) (map seg (xs ++ back)), sum_put f xs back at)

  pub covered_put : (front back : List ℕ) (at u : ℕ) → covered (map seg (front ++ at ∷ back)) u ≡ (covers (seg at) u || covered (map seg (front ++ back)) u)
  covered_put [] back at u = refl
  covered_put (x ∷ xs) back at u = ap (λ q. covers (seg x) u || q) (covered_put xs back at u) ∙ or_swap (covers (seg x) u) (covers (seg at) u) (covered (map seg (xs ++ back)) u)

  pub length_put : (front back : List ℕ) (at : ℕ) → length (front ++ at ∷ back) ≡ length (front ++ back) + 1
  length_put [] back at = omega arith
  length_put (x ∷ xs) back at = omega (arith, length_put xs back at)

  clear_one : (run r : Seg) → 0 < r.count → ((u : ℕ) → run.start ≤ u + 1 → u ≤ end_of run → covers r u ≡ false) → IsClear run r
  clear_one run r some none =
      elim (cases_lt (end_of r) run.start) [
        | inl before ↦ inl before
        | inr reaches ↦ elim (cases_lt (end_of run) r.start) [
          | inl after ↦ inr after
          | inr begins ↦
              let u = max r.start (run.start - 1) in
              let covered_one : covers r u ≡ true = covers_yes r u (omega arith) (omega arith) in
              absurd (false≢true (sym (none u (omega arith) (omega arith)) ∙ covered_one))
        ]
      ]

  -- where no unit round a run is covered, each run stands clear of it
  pub clear_all : (low next : ℕ) (run : Seg) (xs : List ℕ) → AreApartFrom low next (map seg xs) → HoldsNoneAround (covered (map seg xs)) run → Each (λ k. IsClear run (seg k)) xs
  clear_all low next run [] a none = tt
  clear_all low next run (x ∷ xs) a none = (
    clear_one run (seg x) a.1 (λ u h l. or_left _ (covered (map seg xs) u) (none u h l)),
    clear_all (end_of (seg x) + 1) next run xs a.2 (λ u h l. or_right (covers (seg x) u) _ (none u h l)),
  )

  -- a run comes between those that end before it and those that begin behind it
  pub apart_put : (low next : ℕ) (front back : List ℕ) (at : ℕ) → AreApartFrom low next (map seg (front ++ back)) → Each (λ k. end_of (seg k) < (seg at).start) front → Each (λ k. end_of (seg at) < (seg k).start) back → low ≤ (seg at).start → 0 < (seg at).count → end_of (seg at) + 1 ≤ next → AreApartFrom low next (map seg (front ++ at ∷ back))
  apart_put low next [] [] at a f b l s e = (l, s, e)
  apart_put low next [] (y ∷ ys) at a f b l s e = (l, s, (omega (arith, b.0), a.1, a.2))
  apart_put low next (x ∷ xs) back at a f b l s e = (a.0, a.1, apart_put (end_of (seg x) + 1) next xs back at a.2 f.1 b (omega (arith, f.0)) s e)

  -- without one run the others stand apart still
  pub apart_rest : (low next : ℕ) (front back : List ℕ) (at : ℕ) → AreApartFrom low next (map seg (front ++ at ∷ back)) → AreApartFrom low next (map seg (front ++ back))
  apart_rest low next [] [] at a = omega (arith, a)
  apart_rest low next [] (y ∷ ys) at a = (omega (arith, a), a.2.1, a.2.2)
  apart_rest low next (x ∷ xs) back at a = (a.0, a.1, apart_rest (end_of (seg x) + 1) next xs back at a.2)

  -- a unit of one run is in no other
  pub covered_before : (low next : ℕ) (xs : List ℕ) → AreApartFrom low next (map seg xs) → (u : ℕ) → u < low → covered (map seg xs) u ≡ false
  covered_before low next [] a u l = refl
  covered_before low next (x ∷ xs) a u l =
      let none : covers (seg x) u ≡ false = not_true (covers (seg x) u) (λ e. omega (arith, (covers_true (seg x) u e).0, a.0)) in
      ap (λ q. q || covered (map seg xs) u) none ∙ covered_before (end_of (seg x) + 1) next xs a.2 u (omega (arith, a.0))
    where
      not_true : (b : Bool) → (b ≡ true → ⊥) → b ≡ false
      not_true true f = absurd (f refl)
      not_true false f = refl

  pub not_covered : (low next : ℕ) (front back : List ℕ) (at : ℕ) → AreApartFrom low next (map seg (front ++ at ∷ back)) → (u : ℕ) → (seg at).start ≤ u + 1 → u ≤ end_of (seg at) → covered (map seg (front ++ back)) u ≡ false
  not_covered low next [] back at a u h l = covered_before (end_of (seg at) + 1) next back a.2 u (omega arith)
  not_covered low next (x ∷ xs) back at a u h l =
      let above = starts_above (end_of (seg x) + 1) next xs back at a.2 in
      let none : covers (seg x) u ≡ false = not_true (covers (seg x) u) (λ e. omega (arith, (covers_true (seg x) u e).1, above)) in
      ap (λ q. q || covered (map seg (xs ++ back)) u) none ∙ not_covered (end_of (seg x) + 1) next xs back at a.2 u h l
    where
      not_true : (b : Bool) → (b ≡ true → ⊥) → b ≡ false
      not_true true f = absurd (f refl)
      not_true false f = refl

      starts_above : (low next : ℕ) (ys back : List ℕ) (at : ℕ) → AreApartFrom low next (map seg (ys ++ at ∷ back)) → low ≤ (seg at).start
      starts_above low next [] back at a = a.0
      starts_above low next (y ∷ ys) back at a = omega (arith, a.0, starts_above (end_of (seg y) + 1) next ys back at a.2)

-- runs have no more units than they have room
pub sum_fits : (low next : ℕ) (runs : List Seg) → AreApartFrom low next runs → low + sum_by (λ (r : Seg). r.count) runs ≤ next
sum_fits low next [] a = omega arith
sum_fits low next (r ∷ rs) a =
    let e : sum_by (λ (s : Seg). s.count) (r ∷ rs) ≡ r.count + sum_by (λ (s : Seg). s.count) rs = sum_by-cons (λ (s : Seg). s.count) r rs in
    omega (arith, sum_fits (end_of r + 1) next rs a.2)
