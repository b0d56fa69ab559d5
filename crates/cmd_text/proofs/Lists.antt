-- Places in lists, and what holds of a list that grows by one.
use Rattle.std.proofs.Common.{Some, ◌≡◌, ℕ, zero, suc, List, [], ◌∷◌, ◌++◌, length, refl, ap}
use Rattle.std.specs.Prelude.{slice_get}

pub slice_get_left : {A : Type 0} (xs ys : List A) (k : ℕ) (x : A) → slice_get xs k ≡ Some x → slice_get (xs ++ ys) k ≡ Some x
slice_get_left [] ys k x e = cc
slice_get_left (y ∷ xs) ys zero x e = e
slice_get_left (y ∷ xs) ys (suc k) x e = slice_get_left xs ys k x e

pub slice_get_end : {A : Type 0} (xs : List A) (x : A) (ys : List A) → slice_get (xs ++ (x ∷ ys)) (length xs) ≡ Some x
slice_get_end [] x ys = refl
slice_get_end (y ∷ xs) x ys = slice_get_end xs x ys

-- what stands at a place of a list with one more behind
pub data Pushed {A : Type 0} (xs : List A) (x : A) (k : ℕ) (y : A) : Type 0 where
  old : slice_get xs k ≡ Some y → Pushed xs x k y
  new : k ≡ length xs → x ≡ y → Pushed xs x k y

pushed_next : {A : Type 0} (z : A) (xs : List A) (x : A) (k : ℕ) (y : A) → Pushed xs x k y → Pushed (z ∷ xs) x (suc k) y
pushed_next z xs x k y (old e) = old e
pushed_next z xs x k y (new e f) = new (ap suc e) f

pub pushed : {A : Type 0} (xs : List A) (x : A) (k : ℕ) (y : A) → slice_get (xs ++ (x ∷ [])) k ≡ Some y → Pushed xs x k y
pushed [] x zero y e = new refl (cc)
pushed [] x (suc k) y e = cc
pushed (z ∷ xs) x zero y e = old e
pushed (z ∷ xs) x (suc k) y e = pushed_next z xs x k y (pushed xs x k y e)
