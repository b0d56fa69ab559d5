-- Truth values: what an and, an or and a not tell; and which of two numbers is not above the other.
use Rattle.std.proofs.Common.{◌≡◌, ℕ, ◌≤◌, ◌<◌, Bool, true, false, cond, refl, List, ◌∷◌, ◌++◌, arith, ◌⊎◌, inl, inr, zero, suc, [], take, drop}
use Rattle.std.specs.Prelude.{◌||◌, ◌&&◌, not}
use Rattle.std.specs.List.{list_any}
use Rattle.std.proofs.lemmas.Bool.Decides.{nat_tests, leb_tells}

pub true_and : (a b : Bool) → (a && b) ≡ true → (a ≡ true) × (b ≡ true)
true_and true b e = (refl, e)
true_and false b e = cc

pub not_true : (b : Bool) → not b ≡ true → b ≡ false
not_true true e = cc
not_true false e = refl

pub or_none : (a b : Bool) → a ≡ false → b ≡ false → (a || b) ≡ false
or_none a b e f = rw (e, f)

pub or_left : (a b : Bool) → a ≡ true → (a || b) ≡ true
or_left a b e = rw e

pub or_right : (a b : Bool) → b ≡ true → (a || b) ≡ true
or_right true b e = refl
or_right false b e = e

pub or_cases : (a b : Bool) → (a || b) ≡ true → (a ≡ true) ⊎ (b ≡ true)
or_cases true b e = inl refl
or_cases false b e = inr e

pub or_rest : (a b : Bool) → a ≡ false → (a || b) ≡ true → b ≡ true
or_rest true b e f = absurd (cc)
or_rest false b e f = f

pub or_false : (b : Bool) → (b || false) ≡ b
or_false true = refl
or_false false = refl

pub or_swap : (a b c : Bool) → (a || (b || c)) ≡ (b || (a || c))
or_swap true true c = refl
or_swap true false c = refl
or_swap false b c = refl

pub or_assoc : (a b c : Bool) → ((a || b) || c) ≡ (a || (b || c))
or_assoc true b c = refl
or_assoc false b c = refl

pub true_or_false : (b : Bool) → (b ≡ true) ⊎ (b ≡ false)
true_or_false true = inl refl
true_or_false false = inr refl

-- the front of a run is taken from it
pub cut_head : (s r rest : Bool) → (s ≡ true → r ≡ false) → (s ≡ true → rest ≡ false) → (r || rest) ≡ (not s && ((s || r) || rest))
cut_head true r rest f g = or_none r rest (f refl) (g refl)
cut_head false r rest f g = refl

-- and leaves what stands before it
pub cut_tail : (s r x : Bool) → (s ≡ true → r ≡ false) → (r || (not s && x)) ≡ (not s && (r || x))
cut_tail true r x f = rw (f refl)
cut_tail false r x f = refl

pub any_insert : {A : Type 0} (p : A → Bool) (xs : List A) (i : ℕ) (x : A) → list_any p (take i xs ++ x ∷ drop i xs) ≡ (p x || list_any p xs)
any_insert p [] zero x = refl
any_insert p [] (suc i) x = refl
any_insert p (y ∷ ys) zero x = refl
any_insert p (y ∷ ys) (suc i) x =
    let e : list_any p (take i ys ++ x ∷ drop i ys) ≡ (p x || list_any p ys) = any_insert p ys i x in
    rw e (or_swap (p y) (p x) (list_any p ys))

pub cut_whole : (s rest : Bool) → (s ≡ true → rest ≡ false) → rest ≡ (not s && (s || rest))
cut_whole true rest f = f refl
cut_whole false rest f = refl

pub le_or : (a b : ℕ) → (a ≤ b) ⊎ (b < a)
le_or a b = grind (arith, nat_tests, leb_tells a b)

pub same_not : {b : Bool} → b ≡ true → b ≡ false → ⊥
same_not e f = cc

pub or_false_right : (a b : Bool) → (a || b) ≡ false → b ≡ false
or_false_right true b e = absurd (cc)
or_false_right false b e = e

pub and_false : (b : Bool) → (b && false) ≡ false
and_false true = refl
and_false false = refl

pub and_true : (b : Bool) → (b && true) ≡ b
and_true true = refl
and_true false = refl

pub same_cond : {A : Type 0} (b : Bool) (x : A) → cond b x x ≡ x
same_cond true x = refl
same_cond false x = refl
