-- What tests say.
use Rattle.std.proofs.Common.{◌≡◌, ◌≢◌, ℕ, Bool, true, false, eqb, List, [], ◌∷◌, ◌++◌, refl, ◌∙◌, ap, ◌⊎◌, inl, inr}
use Rattle.std.specs.Prelude.{◌&&◌, ◌||◌}
use Rattle.std.specs.List.{list_any}
use Rattle.std.proofs.lemmas.Bool.Decides.{eqb_tells}
use Rattle.std.proofs.lemmas.List.Folds.{list_any-append}
use Rattle.zms_units.specs.declared.places.MsId.{MsId}
use Rattle.copy_walk.specs.Steps.{is_same}

pub clash : (b : Bool) → b ≡ true → b ≡ false → ⊥
clash true e f = cc
clash false e f = cc

pub false_of : (b : Bool) → (b ≡ true → ⊥) → b ≡ false
false_of true n = absurd (n refl)
false_of false n = refl

pub or_none : (b : Bool) → (b || false) ≡ b
or_none true = refl
or_none false = refl

pub and_none : (b : Bool) → (b && false) ≡ false
and_none true = refl
and_none false = refl

pub and_both : (a b : Bool) → (a && b) ≡ true → (a ≡ true) × (b ≡ true)
and_both true b e = (refl, e)
and_both false b e = cc

pub or_either : (a b : Bool) → (a || b) ≡ true → (a ≡ true) ⊎ (b ≡ true)
or_either true b e = inl refl
or_either false b e = inr e

pub either_of : (b : Bool) → (b ≡ true) ⊎ (b ≡ false)
either_of true = inl refl
either_of false = inr refl

pub eqb_is : (a b : ℕ) → eqb a b ≡ true → a ≡ b
eqb_is a b e = at (eqb_tells a b) where
  at : ((eqb a b ≡ true) × (a ≡ b)) ⊎ ((eqb a b ≡ false) × (a ≢ b)) → a ≡ b
  at (inl t) = t.1
  at (inr t) = absurd (clash (eqb a b) e t.0)

pub eqb_same : (a b : ℕ) → a ≡ b → eqb a b ≡ true
eqb_same a b e = at (eqb_tells a b) where
  at : ((eqb a b ≡ true) × (a ≡ b)) ⊎ ((eqb a b ≡ false) × (a ≢ b)) → eqb a b ≡ true
  at (inl t) = t.0
  at (inr t) = absurd (t.1 e)

pub eqb_other : (a b : ℕ) → (a ≡ b → ⊥) → eqb a b ≡ false
eqb_other a b ne = false_of (eqb a b) (λ e. ne (eqb_is a b e))

-- one item more passes a test, or one before does
pub any_push : {A : Type 0} (test : A → Bool) (xs : List A) (x : A) → list_any test (xs ++ x ∷ []) ≡ (list_any test xs || test x)
any_push test xs x = list_any-append test xs (x ∷ []) ∙ ap (λ (b : Bool). list_any test xs || b) (or_none (test x))

pub same_is : (a b : MsId) → is_same a b ≡ true → a ≡ b
same_is a b e =
    let both : (eqb a.vdev b.vdev ≡ true) × (eqb a.index b.index ≡ true) = and_both (eqb a.vdev b.vdev) (eqb a.index b.index) e in
    let v : a.vdev ≡ b.vdev = eqb_is a.vdev b.vdev both.0 in
    let i : a.index ≡ b.index = eqb_is a.index b.index both.1 in
    λ k. record { vdev = v k; index = i k }

pub same_itself : (a : MsId) → is_same a a ≡ true
same_itself a = ap (λ (b : Bool). b && eqb a.index a.index) (eqb_same a.vdev a.vdev refl) ∙ eqb_same a.index a.index refl

pub or_true : (a b : Bool) → b ≡ true → (a || b) ≡ true
or_true true b e = refl
or_true false b e = e
