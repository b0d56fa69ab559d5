-- What contracts see of a pool.
use Rattle.std.specs.Prelude.{◌≡◌, ℕ, List, Option, Some, None, is_some, count_by, slice_index_or, slice_set, refl}
use Rattle.std.specs.Coded.{Coded, code_by, coded×, coded_ℕ, coded_list, coded_option}

-- the node or nothing at each place, and how many nodes can be taken without memory
pub record Pool (N : Type 0) : Type 0 where
  pub nodes : List (Option N)
  pub spare : ℕ

-- a pool is stored as the pair of its fields
abbrev pub pool_code : {N : Type 0} → Coded N → Coded (Pool N)
pool_code {N} code =
    code_by
    (List (Option N) × ℕ)
    (coded× (coded_list (coded_option code)) coded_ℕ)
    (λ p. (p.nodes, p.spare))
    (λ p. record { nodes = p.0; spare = p.1 })
    (λ _. refl)

module _ {N : Type 0} where
  -- the node at a place, if it is in use
  abbrev pub node_at : Pool N → ℕ → Option N
  node_at pool at = slice_index_or pool.nodes at None

  -- how many nodes are in use
  abbrev pub used : Pool N → ℕ
  used pool = count_by is_some pool.nodes

  -- the pool with another node at a place
  abbrev pub with_node : Pool N → ℕ → N → Pool N
  with_node pool at node = record pool { nodes = slice_set pool.nodes at (Some node) }

  -- each place has what it had, and as many are in use
  pub record SameNodes (old new : Pool N) : Type 0 where
    pub at : (place : ℕ) → node_at new place ≡ node_at old place
    pub count : used new ≡ used old
