-- Lists of places.
use Rattle.std.specs.Prelude.{◌≡◌, ℕ, List, [], ◌∷◌, ◌++◌}

-- something holds of each place of a list
abbrev pub Each : (ℕ → Type 0) → List ℕ → Type 0
Each P [] = Unit {0}
Each P (x ∷ xs) = P x × Each P xs

-- a place is not in a list
abbrev pub IsApart : ℕ → List ℕ → Type 0
IsApart k xs = Each (λ j. j ≡ k → ⊥) xs

-- no place of one list is in another
abbrev pub AreApart : List ℕ → List ℕ → Type 0
AreApart xs ys = Each (λ k. IsApart k ys) xs

-- no place is in a list twice
abbrev pub IsDistinct : List ℕ → Type 0
IsDistinct [] = Unit {0}
IsDistinct (x ∷ xs) = IsApart x xs × IsDistinct xs

-- one list is another with a place more
pub record PutIn (rest : List ℕ) (at : ℕ) (list : List ℕ) : Type 0 where
  pub front : List ℕ
  pub back : List ℕ
  pub without : rest ≡ front ++ back
  pub with_it : list ≡ front ++ at ∷ back

-- places that no two of three parts share
pub record Parts (near : List ℕ) (at : ℕ) (far : List ℕ) : Type 0 where
  pub near_distinct : IsDistinct near
  pub far_distinct : IsDistinct far
  pub at_near : IsApart at near
  pub at_far : IsApart at far
  pub across : AreApart near far
  pub back : AreApart far near
