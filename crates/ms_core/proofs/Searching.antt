-- A segment as it is searched for the lowest unit that may not be given back.
use Rattle.std.proofs.Common.{◌≡◌, ℕ, ◌+◌, ◌<◌, ◌≤◌, zero, suc, ◌⊎◌, inl, inr, subst, arith}
use Rattle.std.proofs.lemmas.Bool.{cases_lt}
use Rattle.zms_units.specs.declared.segments.Seg.{Seg}
use Rattle.zms_units.specs.Segments.{Covers}
use Rattle.ms_model.specs.Units.{LastAct, granted, freed, taken_back, untouched}
use Rattle.ms_model.specs.Legal.{IsGrantedBy, IsLowestLacking}

-- of each unit of a segment something holds, or it has a lowest unit of which it does not
pub data Searched (Has : ℕ → Type 0) (seg : Seg) : Type 0 where
  lacks : (unit : ℕ) → IsLowestLacking Has seg unit → Searched Has seg
  all : ((u : ℕ) → Covers seg u → Has u) → Searched Has seg

one_more : (Has : ℕ → Type 0) (start count : ℕ) → Has (start + count) ⊎ (Has (start + count) → ⊥)
    → (let short : Seg = record { start = start; count = count } in Searched Has short) → (let seg : Seg = record { start = start; count = suc count } in Searched Has seg)
one_more Has start count test (lacks unit low) = lacks unit (record { inside = (low.inside.0, omega (arith, low.inside.1)); lacks = low.lacks; below = λ u c lt. low.below u (c.0, omega (arith, low.inside.1, lt)) lt })
one_more Has start count (inr none) (all each) = lacks (start + count) (record { inside = (omega arith, omega arith); lacks = none; below = λ u c lt. each u (c.0, lt) })
one_more Has start count (inl last) (all each) = all (λ u c. by_place u c (cases_lt u (start + count))) where
  by_place : (u : ℕ) → (start ≤ u) × (u < start + suc count) → (u < start + count) ⊎ (start + count ≤ u) → Has u
  by_place u c (inl lt) = each u (c.0, lt)
  by_place u c (inr ge) = let here : start + count ≡ u = omega (arith, c.1, ge) in subst Has here last

pub searched : (Has : ℕ → Type 0) → ((u : ℕ) → Has u ⊎ (Has u → ⊥)) → (start count : ℕ) → (let seg : Seg = record { start = start; count = count } in Searched Has seg)
searched Has test start zero = all (λ u c. absurd (omega (arith, c.0, c.1)))
searched Has test start (suc count) = one_more Has start count (test (start + count)) (searched Has test start count)

-- whether a unit was granted by a group
pub granted_or_not : (t : ℕ) (a : LastAct) → IsGrantedBy t a ⊎ (IsGrantedBy t a → ⊥)
granted_or_not t (granted lane group) = by_order (cases_lt t group) where
  by_order : (t < group) ⊎ (group ≤ t) → (group ≤ t) ⊎ ((group ≤ t) → ⊥)
  by_order (inl lt) = inr (λ le. omega (arith, lt, le))
  by_order (inr ge) = inl ge
granted_or_not t (freed group) = inr (λ is. is)
granted_or_not t taken_back = inr (λ is. is)
granted_or_not t untouched = inr (λ is. is)
