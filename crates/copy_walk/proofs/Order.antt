-- The order of vdevs: of two one comes before the other, and none before itself.
use Rattle.std.proofs.Common.{◌≡◌, ℕ, ◌+◌, ◌-◌, ◌<◌, ◌≤◌, Bool, true, false, cond, length, refl, sym, ◌∙◌, ap, arith, ◌⊎◌, inl, inr}
use Rattle.std.proofs.lemmas.Bool.{cases_lt, lt-ltb, le-ltb}
use Rattle.copy_walk.specs.Plans.{Plan, holds, distance, ComesBefore}
use Rattle.copy_walk.proofs.Booleans.{clash}

pub distance_before : (p : Plan) (v : ℕ) → v < p.rotor → distance p v ≡ v + length p.vdevs - p.rotor
distance_before p v lt = ap (λ (b : Bool). cond b (v + length p.vdevs - p.rotor) (v - p.rotor)) (lt-ltb v p.rotor lt)

pub distance_behind : (p : Plan) (v : ℕ) → p.rotor ≤ v → distance p v ≡ v - p.rotor
distance_behind p v le = ap (λ (b : Bool). cond b (v + length p.vdevs - p.rotor) (v - p.rotor)) (le-ltb v p.rotor le)

pub one_distance : (p : Plan) (v u : ℕ) → p.rotor < length p.vdevs → v < length p.vdevs → u < length p.vdevs → distance p v ≡ distance p u → v ≡ u
one_distance p v u r lv lu e = at (cases_lt v p.rotor) (cases_lt u p.rotor) where
  at : (v < p.rotor) ⊎ (p.rotor ≤ v) → (u < p.rotor) ⊎ (p.rotor ≤ u) → v ≡ u
  at (inl a) (inl b) = omega (arith, a, b, sym (distance_before p v a) ∙ (e ∙ distance_before p u b))
  at (inl a) (inr b) = absurd (omega (arith, a, b, r, lu, sym (distance_before p v a) ∙ (e ∙ distance_behind p u b)))
  at (inr a) (inl b) = absurd (omega (arith, a, b, r, lv, sym (distance_behind p v a) ∙ (e ∙ distance_before p u b)))
  at (inr a) (inr b) = omega (arith, a, b, sym (distance_behind p v a) ∙ (e ∙ distance_behind p u b))

pub distance_within : (p : Plan) (v : ℕ) → p.rotor < length p.vdevs → v < length p.vdevs → distance p v < length p.vdevs
distance_within p v r lv = at (cases_lt v p.rotor) where
  at : (v < p.rotor) ⊎ (p.rotor ≤ v) → distance p v < length p.vdevs
  at (inl a) = omega (arith, a, r, distance_before p v a)
  at (inr a) = omega (arith, a, lv, distance_behind p v a)

-- the vdev so many further on
pub distance_at : (p : Plan) (v k : ℕ) → p.rotor < length p.vdevs → k < length p.vdevs → (v ≡ p.rotor + k) ⊎ (v + length p.vdevs ≡ p.rotor + k) → distance p v ≡ k
distance_at p v k r lk (inl e) = let le : p.rotor ≤ v = omega (arith, e) in omega (arith, e, distance_behind p v le)
distance_at p v k r lk (inr e) = let lt : v < p.rotor = omega (arith, e, lk) in omega (arith, e, lk, distance_before p v lt)

pub never_itself : (p : Plan) (v : ℕ) → ComesBefore p v v → ⊥
never_itself p v (inl both) = clash (holds p v) both.1 both.0
never_itself p v (inr both) = omega (arith, both.1)

pub not_both : (p : Plan) (v u : ℕ) → ComesBefore p v u → ComesBefore p u v → ⊥
not_both p v u (inl a) (inl b) = clash (holds p v) b.1 a.0
not_both p v u (inl a) (inr b) = clash (holds p u) a.1 (b.0 ∙ a.0)
not_both p v u (inr a) (inl b) = clash (holds p v) b.1 (a.0 ∙ b.0)
not_both p v u (inr a) (inr b) = omega (arith, a.1, b.1)

abbrev pub Either : Plan → ℕ → ℕ → Type 0
Either p v u = (v ≡ u) ⊎ (ComesBefore p v u ⊎ ComesBefore p u v)

nearer : (p : Plan) (v u : ℕ) → p.rotor < length p.vdevs → v < length p.vdevs → u < length p.vdevs → holds p v ≡ holds p u → Either p v u
nearer p v u r lv lu same = at (cases_lt (distance p v) (distance p u)) where
  other : (distance p u ≤ distance p v) → (distance p u < distance p v) ⊎ (distance p v ≤ distance p u) → Either p v u
  other le (inl lt) = inr (inr (inr (sym same, lt)))
  other le (inr ge) = inl (one_distance p v u r lv lu (omega (arith, le, ge)))

  at : (distance p v < distance p u) ⊎ (distance p u ≤ distance p v) → Either p v u
  at (inl lt) = inr (inl (inr (same, lt)))
  at (inr le) = other le (cases_lt (distance p u) (distance p v))

by_holding : (p : Plan) (v u : ℕ) (b c : Bool) → holds p v ≡ b → holds p u ≡ c → (holds p v ≡ holds p u → Either p v u) → Either p v u
by_holding p v u false true e f same = inr (inl (inl (e, f)))
by_holding p v u true false e f same = inr (inr (inl (f, e)))
by_holding p v u false false e f same = same (e ∙ sym f)
by_holding p v u true true e f same = same (e ∙ sym f)

pub either_before : (p : Plan) (v u : ℕ) → p.rotor < length p.vdevs → v < length p.vdevs → u < length p.vdevs → Either p v u
either_before p v u r lv lu = by_holding p v u (holds p v) (holds p u) refl refl (nearer p v u r lv lu)
