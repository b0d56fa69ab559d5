-- Lists that change at one place or grow at the end, place by place.
use Rattle.std.proofs.Common.{◌≡◌, ℕ, zero, suc, ◌<◌, ◌≢◌, List, [], ◌∷◌, ◌++◌, length, get_or, set, drop, refl, sym, ◌∙◌, ap, subst, arith, Some, ◌⊎◌, inl, inr, ⊎_elim}
use Rattle.std.specs.Prelude.{slice_get}
use Rattle.std.proofs.lemmas.Option.{slice_get_read}
use Rattle.turn_passes.specs.Pairs.{Each}

module _ {A : Type 0} where
  -- what stands in a list after one place was set
  pub get_set : (xs : List A) (i k : ℕ) (v y : A) → slice_get (set xs i v) k ≡ Some y → ((k ≡ i) × (v ≡ y)) ⊎ ((k ≢ i) × (slice_get xs k ≡ Some y))
  get_set [] i k v y e = absurd (cc)
  get_set (x ∷ xs) zero zero v y e = inl (refl, (cc))
  get_set (x ∷ xs) zero (suc k) v y e = inr ((λ q. omega arith), e)
  get_set (x ∷ xs) (suc i) zero v y e = inr ((λ q. omega arith), e)
  get_set (x ∷ xs) (suc i) (suc k) v y e =
      ⊎_elim
      (λ (t : (k ≡ i) × (v ≡ y)). inl (ap suc t.0, t.1))
      (λ (t : (k ≢ i) × (slice_get xs k ≡ Some y)). inr ((λ q. t.0 (omega arith)), t.1))
      (get_set xs i k v y e)

  -- and after one item was added at the end
  pub get_push : (xs : List A) (y : A) (k : ℕ) (x : A) → slice_get (xs ++ y ∷ []) k ≡ Some x → (slice_get xs k ≡ Some x) ⊎ ((k ≡ length xs) × (y ≡ x))
  get_push [] y zero x e = inr (refl, (cc))
  get_push [] y (suc k) x e = absurd (cc)
  get_push (z ∷ xs) y zero x e = inl e
  get_push (z ∷ xs) y (suc k) x e =
      ⊎_elim
      (λ (t : slice_get xs k ≡ Some x). inl t)
      (λ (t : (k ≡ length xs) × (y ≡ x)). inr (ap suc t.0, t.1))
      (get_push xs y k x e)

  pub get_push_front : (xs ys : List A) (k : ℕ) (x : A) → slice_get xs k ≡ Some x → slice_get (xs ++ ys) k ≡ Some x
  get_push_front [] ys k x e = absurd (cc)
  get_push_front (z ∷ xs) ys zero x e = e
  get_push_front (z ∷ xs) ys (suc k) x e = get_push_front xs ys k x e

  pub get_push_last : (xs : List A) (y : A) → slice_get (xs ++ y ∷ []) (length xs) ≡ Some y
  get_push_last [] y = refl
  get_push_last (x ∷ xs) y = get_push_last xs y

  -- each place of a list has an item, and a place that was set has that one
  pub some_at : (xs : List A) (k : ℕ) → k < length xs → (x : A) × (slice_get xs k ≡ Some x)
  some_at [] k lt = absurd (omega arith)
  some_at (x ∷ xs) zero lt = (x, refl)
  some_at (x ∷ xs) (suc k) lt = some_at xs k (omega arith)

  pub get_set_there : (xs : List A) (k : ℕ) (v : A) → k < length xs → slice_get (set xs k v) k ≡ Some v
  get_set_there [] k v lt = absurd (omega arith)
  get_set_there (x ∷ xs) zero v lt = refl
  get_set_there (x ∷ xs) (suc k) v lt = get_set_there xs k v (omega arith)

  -- one place has one item
  pub one_item : (xs : List A) (k : ℕ) (x y : A) → slice_get xs k ≡ Some x → slice_get xs k ≡ Some y → x ≡ y
  one_item xs k x y e f = cc

module _ {A B : Type 0} where
  pub each_none : (P : ℕ → A → B → Type 0) (xs : List A) → Each P xs []
  each_none P xs = record { at = λ k x y e f. absurd (cc) }

  pub each_push : (P : ℕ → A → B → Type 0) (xs : List A) (ys zs : List B) (n : ℕ) (y : B) → Each P xs ys → zs ≡ ys ++ y ∷ [] → length ys ≡ n → ((x : A) → slice_get xs n ≡ Some x → P n x y) → Each P xs zs
  each_push P xs ys zs n y each longer count last = record {
    at = λ k x z e f.
        ⊎_elim
        (λ (t : slice_get ys k ≡ Some z). each.at k x z e t)
        (λ (t : (k ≡ length ys) × (y ≡ z)).
        let there : k ≡ n = t.0 ∙ count in
        subst (λ (v : B). P k x v) t.1 (subst (λ (m : ℕ). P m x y) (sym there) (last x (subst (λ (m : ℕ). slice_get xs m ≡ Some x) there e))))
        (get_push ys y k z (subst (λ (l : List B). slice_get l k ≡ Some z) longer f));
  }

  -- one place of the second list is set
  pub each_set : (P Q : ℕ → A → B → Type 0) (xs : List A) (ys : List B) (i : ℕ) (v : B) → Each P xs ys → ((k : ℕ) (x : A) (y : B) → k ≢ i → P k x y → Q k x y)
      → ((x : A) → slice_get xs i ≡ Some x → Q i x v) → Each Q xs (set ys i v)
  each_set P Q xs ys i v each others there = record {
    at = λ k x z e f.
        ⊎_elim
        (λ (t : (k ≡ i) × (v ≡ z)).
        subst (λ (y : B). Q k x y) t.1 (subst (λ (n : ℕ). Q n x v) (sym t.0) (there x (subst (λ (n : ℕ). slice_get xs n ≡ Some x) t.0 e))))
        (λ (t : (k ≢ i) × (slice_get ys k ≡ Some z)). others k x z t.0 (each.at k x z e t.1))
        (get_set ys i k v z f);
  }

  pub each_along : (P Q : ℕ → A → B → Type 0) (xs : List A) (ys : List B) → ((k : ℕ) (x : A) (y : B) → P k x y → Q k x y) → Each P xs ys → Each Q xs ys
  each_along P Q xs ys implies each = record { at = λ k x y e f. implies k x y (each.at k x y e f) }

-- an item that was read at a place
pub read_at : {A : Type 0} (xs : List A) (i : ℕ) (x : A) → i < length xs → x ≡ get_or xs i x → slice_get xs i ≡ Some x
read_at xs i x lt is = slice_get_read xs (length xs) i x refl lt is

-- the front of what is left, and the rest
pub left_head : {A : Type 0} (xs rest : List A) (n : ℕ) (x : A) → x ∷ rest ≡ drop n xs → (slice_get xs n ≡ Some x) × (rest ≡ drop (suc n) xs)
left_head [] rest zero x e = absurd (cc)
left_head [] rest (suc n) x e = absurd (cc)
left_head (y ∷ xs) rest zero x e = ((cc), (cc))
left_head (y ∷ xs) rest (suc n) x e = left_head xs rest n x e
