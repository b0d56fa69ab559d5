-- What tests say, and what a list has after a write.
use Rattle.std.proofs.Common.{◌≡◌, ◌≢◌, ℕ, zero, suc, ◌<◌, Bool, true, false, cond, eqb, Option, Some, None, List, [], ◌∷◌, length, set, get_or, get_or-set_same, get_or-set_other, refl, sym, ◌∙◌, ap, ◌⊎◌, inl, inr}
use Rattle.std.specs.Prelude.{◌&&◌, ◌||◌, not, map}
use Rattle.std.proofs.lemmas.Bool.Decides.{eqb_tells}
use Rattle.ms_model.specs.declared.notes.Got.{Got}
use Rattle.class_model.specs.Replay.{dropped}
use Rattle.class_core.specs.Rankings.{is_same}

pub and_both : (a b : Bool) → (a && b) ≡ true → (a ≡ true) × (b ≡ true)
and_both true b e = (refl, e)
and_both false b e = cc

pub or_either : (a b : Bool) → (a || b) ≡ true → (a ≡ true) ⊎ (b ≡ true)
or_either true b e = inl refl
or_either false b e = inr e

pub or_left : (a b : Bool) → a ≡ true → (a || b) ≡ true
or_left a b e = ap (λ x. x || b) e

pub or_right : (a b : Bool) → b ≡ true → (a || b) ≡ true
or_right true b e = refl
or_right false b e = e

pub not_true : (a : Bool) → not a ≡ true → a ≡ false
not_true true e = cc
not_true false e = refl

pub not_false : (a b : Bool) → a ≡ false → b ≡ true → (not a && b) ≡ true
not_false true b e f = cc
not_false false b e f = f

pub clash : (b : Bool) → b ≡ true → b ≡ false → ⊥
clash true e f = cc
clash false e f = cc

pub false_of : (b : Bool) → (b ≡ true → ⊥) → b ≡ false
false_of true n = absurd (n refl)
false_of false n = refl

pub none_some : (i : ℕ) → ◌≡◌ {A = Option ℕ} None (Some i) → ⊥
none_some i e = cc

pub some_is : (i j : ℕ) → ◌≡◌ {A = Option ℕ} (Some i) (Some j) → i ≡ j
some_is i j e = cc

pub eqb_is : (a b : ℕ) → eqb a b ≡ true → a ≡ b
eqb_is a b e = at (eqb_tells a b) where
  at : ((eqb a b ≡ true) × (a ≡ b)) ⊎ ((eqb a b ≡ false) × (a ≢ b)) → a ≡ b
  at (inl t) = t.1
  at (inr t) = absurd (clash (eqb a b) e t.0)

pub eqb_same : (a b : ℕ) → a ≡ b → eqb a b ≡ true
eqb_same a b e = at (eqb_tells a b) where
  at : ((eqb a b ≡ true) × (a ≡ b)) ⊎ ((eqb a b ≡ false) × (a ≢ b)) → eqb a b ≡ true
  at (inl t) = t.0
  at (inr t) = absurd (t.1 e)

pub eqb_other : (a b : ℕ) → (a ≡ b → ⊥) → eqb a b ≡ false
eqb_other a b ne = false_of (eqb a b) (λ e. ne (eqb_is a b e))

pub same_tells : (a b : Got) → is_same a b ≡ true → (a.weight ≡ b.weight) × (a.index ≡ b.index)
same_tells a b e =
    let both : (eqb a.weight b.weight ≡ true) × (eqb a.index b.index ≡ true) = and_both (eqb a.weight b.weight) (eqb a.index b.index) e in
    (eqb_is a.weight b.weight both.0, eqb_is a.index b.index both.1)

pub same_is : (a b : Got) → a.weight ≡ b.weight → a.index ≡ b.index → is_same a b ≡ true
same_is a b e f = ap (λ x. x && eqb a.index b.index) (eqb_same a.weight b.weight e) ∙ eqb_same a.index b.index f

pub same_not : (a b : Got) → (a.index ≡ b.index → ⊥) → is_same a b ≡ false
same_not a b ne = false_of (is_same a b) (λ e. ne (same_tells a b e).1)

pub got_is : (a b : Got) → a.index ≡ b.index → a.weight ≡ b.weight → a ≡ b
got_is a b e f = ap (λ (i : ℕ). record { index = i; weight = a.weight }) e ∙ ap (λ (w : ℕ). record { index = b.index; weight = w }) f

cut_some : (b : Bool) (k j : ℕ) → cond b None (Some k) ≡ Some j → (b ≡ false) × (k ≡ j)
cut_some true k j e = absurd (none_some j e)
cut_some false k j e = (refl, some_is k j e)

-- what is active and was not dropped
pub dropped_some : (i : ℕ) (x : Option ℕ) (j : ℕ) → dropped i x ≡ Some j → (x ≡ Some j) × (i ≡ j → ⊥)
dropped_some i None j e = absurd (none_some j e)
dropped_some i (Some k) j e =
    let both : (eqb i k ≡ false) × (k ≡ j) = cut_some (eqb i k) k j e in
    (ap Some both.1, λ same. clash (eqb i k) (eqb_same i k (same ∙ sym both.1)) both.0)

pub dropped_kept : (i : ℕ) (x : Option ℕ) (j : ℕ) → x ≡ Some j → (i ≡ j → ⊥) → dropped i x ≡ Some j
dropped_kept i x j e ne = ap (dropped i) e ∙ ap (λ (b : Bool). cond b None (Some j)) (eqb_other i j ne)

pub dropped_free : (i : ℕ) (x : Option ℕ) → (x ≡ Some i → ⊥) → dropped i x ≡ x
dropped_free i None free = refl
dropped_free i (Some k) free = ap (λ (b : Bool). cond b None (Some k)) (eqb_other i k (λ e. free (ap Some (sym e))))

-- one place of a list was written
pub set_look : {X : Type 0} (l : List X) (i k : ℕ) (a d : X) → i < length l → get_or (set l i a) k d ≡ cond (eqb i k) a (get_or l k d)
set_look l i k a d lt = at (eqb_tells i k) where
  at : ((eqb i k ≡ true) × (i ≡ k)) ⊎ ((eqb i k ≡ false) × (i ≢ k)) → get_or (set l i a) k d ≡ cond (eqb i k) a (get_or l k d)
  at (inl t) = ap (λ (n : ℕ). get_or (set l i a) n d) (sym t.1) ∙ (get_or-set_same l i a d lt ∙ sym (ap (λ b. cond b a (get_or l k d)) t.0))
  at (inr t) = get_or-set_other l i k a d (λ e. t.1 (sym e)) ∙ sym (ap (λ b. cond b a (get_or l k d)) t.0)

pub map_look : {X : Type 0} (f : X → X) (l : List X) (k : ℕ) (d : X) → f d ≡ d → get_or (map f l) k d ≡ f (get_or l k d)
map_look f [] k d e = sym e
map_look f (x ∷ l) zero d e = refl
map_look f (x ∷ l) (suc k) d e = map_look f l k d e

pub cond_or : (b x : Bool) → cond b true x ≡ (b || x)
cond_or true x = refl
cond_or false x = refl

pub cond_and : (b x : Bool) → cond b false x ≡ (not b && x)
cond_and true x = refl
cond_and false x = refl
