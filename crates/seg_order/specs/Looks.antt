-- What a look at an order answers.
use Rattle.std.specs.Prelude.{◌≡◌, ℕ, Bool, true, false, Option, Some, None, List, ◌∷◌, ◌++◌}
use Rattle.seg_pool.specs.declared.NodeNo.{NodeNo}
use Rattle.seg_pool.specs.Pool.{Pool, node_at}
use Rattle.seg_order.specs.Rules.{Rules}
use Rattle.seg_order.specs.Lists.{Each}
use Rattle.seg_order.specs.Sides.{comes_before}

-- the first place of a list that passes a test, behind those that do not
pub record IsFirstPassing (fails : ℕ → Bool) (list : List ℕ) (at : ℕ) : Type 0 where
  pub front : List ℕ
  pub back : List ℕ
  pub split : list ≡ front ++ at ∷ back
  pub skipped : Each (λ one. fails one ≡ true) front
  pub passes : fails at ≡ false

-- the first place that passes a test, none exactly where each fails
abbrev pub IsFound : (ℕ → Bool) → List ℕ → Option NodeNo → Type 0
IsFound fails list None = Each (λ one. fails one ≡ true) list
IsFound fails list (Some at) = IsFirstPassing fails list at.0

-- the first place of all
abbrev pub IsFirst : List ℕ → Option NodeNo → Type 0
IsFirst list found = IsFound (λ _. false) list found

-- the first place whose node is not before a key
abbrev pub IsFirstFrom : {N : Type 0} → Rules N → Pool N → N → List ℕ → Option NodeNo → Type 0
IsFirstFrom rules pool key list found = IsFound (λ one. comes_before rules (node_at pool one) (Some key)) list found
