-- What stands on the two sides of a node.
use Rattle.std.specs.Prelude.{◌≡◌, ℕ, Bool, true, false, cond, Option, Some, None, List, ◌∷◌, ◌++◌}
use Rattle.seg_pool.specs.declared.NodeNo.{NodeNo}
use Rattle.seg_pool.specs.Pool.{Pool, node_at}
use Rattle.seg_order.specs.declared.links.Links.{Links}
use Rattle.seg_order.specs.declared.links.Side.{Side}
use Rattle.seg_order.specs.declared.links.Side.TheVariants.{Left, Right}
use Rattle.seg_order.specs.Rules.{Rules}

abbrev pub other : Side → Side
other Left = Right
other Right = Left

-- what hangs on a side
abbrev pub toward : Side → Links → Option NodeNo
toward Left links = links.left
toward Right links = links.right

-- a place between those on one side of it and those on the other
abbrev pub between : Side → List ℕ → ℕ → List ℕ → List ℕ
between Left near at far = near ++ at ∷ far
between Right near at far = far ++ at ∷ near

module _ {N : Type 0} (rules : Rules N) where
  -- does one node come before another, where both are in use?
  abbrev pub comes_before : Option N → Option N → Bool
  comes_before None other_one = false
  comes_before (Some x) None = false
  comes_before (Some x) (Some y) = rules.before x y

  -- the node at one place comes before that at another
  abbrev pub IsBefore : Pool N → ℕ → ℕ → Type 0
  IsBefore pool first second = comes_before (node_at pool first) (node_at pool second) ≡ true

  -- on which side of one place another belongs
  abbrev pub side_of : Pool N → ℕ → ℕ → Side
  side_of pool at from = cond (comes_before (node_at pool at) (node_at pool from)) Left Right
