-- Two lists of which one says something of the other, place by place.
use Rattle.std.specs.Prelude.{◌≡◌, ℕ, Some, List, slice_get}

-- at each place that both have
pub record Each {A B : Type 0} (P : ℕ → A → B → Type 0) (xs : List A) (ys : List B) : Type 0 where
  pub at : (k : ℕ) (x : A) (y : B) → slice_get xs k ≡ Some x → slice_get ys k ≡ Some y → P k x y

-- at each place that all three have
pub record EachThird {A B C : Type 0} (P : ℕ → A → B → C → Type 0) (xs : List A) (ys : List B) (zs : List C) : Type 0 where
  pub at : (k : ℕ) (x : A) (y : B) (z : C) → slice_get xs k ≡ Some x → slice_get ys k ≡ Some y → slice_get zs k ≡ Some z → P k x y z
