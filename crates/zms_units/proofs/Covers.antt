-- What the test tells whether a segment covers a unit.
use Rattle.std.proofs.Common.{◌≡◌, ℕ, ◌≤◌, ◌<◌, true, false, List, [], ◌∷◌, ◌++◌, ◌∙◌, arith}
use Rattle.std.specs.Prelude.{◌||◌, nat_le, nat_lt}
use Rattle.std.proofs.lemmas.Bool.{leb-true, ltb-true}
use Rattle.std.proofs.lemmas.Bool.Decides.{nat_tests}
use Rattle.std.proofs.lemmas.List.Folds.{list_any-append}
use Rattle.zms_units.specs.declared.segments.Seg.{Seg}
use Rattle.zms_units.specs.Segments.{end_of, covers, covered, Covers}
use Rattle.zms_units.proofs.Bools.{true_and, or_false}

pub covers_yes : (seg : Seg) (u : ℕ) → seg.start ≤ u → u < end_of seg → covers seg u ≡ true
covers_yes seg u a b = grind (arith, nat_tests)

pub covers_low : (seg : Seg) (u : ℕ) → u < seg.start → covers seg u ≡ false
covers_low seg u a = grind (arith, nat_tests)

pub covers_high : (seg : Seg) (u : ℕ) → end_of seg ≤ u → covers seg u ≡ false
covers_high seg u a = grind (arith, nat_tests)

pub covers_none : (seg : Seg) (u : ℕ) → seg.count ≡ 0 → covers seg u ≡ false
covers_none seg u a = grind (arith, nat_tests)

-- the test of a unit tells that the segment covers it
pub covers_true : (seg : Seg) (u : ℕ) → covers seg u ≡ true → Covers seg u
covers_true seg u e =
    let both : (nat_le seg.start u ≡ true) × (nat_lt u (end_of seg) ≡ true) = true_and _ _ e in
    (leb-true _ _ both.0, ltb-true _ _ both.1)

pub covered-push : (segs : List Seg) (seg : Seg) (u : ℕ) → covered (segs ++ seg ∷ []) u ≡ (covered segs u || covers seg u)
covered-push segs seg u =
    let e : covered (segs ++ seg ∷ []) u ≡ (covered segs u || (covers seg u || false)) = list_any-append (λ s. covers s u) segs (seg ∷ []) in
    e ∙ rw (or_false (covers seg u))

-- a run is its front and its rest
pub split_covers : (run front rest : Seg) (u : ℕ) → front.start ≡ run.start → rest.start ≡ end_of front → end_of rest ≡ end_of run → covers run u ≡ (covers front u || covers rest u)
split_covers run front rest u e f g = grind (arith, nat_tests)
