-- What the keeper knows between its groups, and while it settles one cell after the other.
use Rattle.std.specs.Prelude.{◌≡◌, ℕ, ◌+◌, ◌<◌, ◌≤◌, length}
use Rattle.ms_model.specs.Gates.{synced_group}
use Rattle.ms_model.specs.Units.{settled_group, collected_group}
use Rattle.ms_cell.specs.Turns.{Turns}
use Rattle.ms_cell.specs.Passes.{Passes, origin_in, seen_in}

-- the metaslab of a number collected and settled this group last
pub record IsSettledTo (group number : ℕ) (p : Passes) : Type 0 where
  pub collected : collected_group (origin_in p number) (seen_in p number) ≡ group
  pub settled : settled_group (origin_in p number) (seen_in p number) ≡ group

-- the gate settled this group last, the first so many metaslabs the next one, and the others this one
pub record HasSettled (t : Turns) (group done : ℕ) (p : Passes) : Type 0 where
  pub gate : synced_group t.opened p.gate.seen ≡ group
  pub before : (number : ℕ) → number < done → IsSettledTo (group + 1) number p
  pub others : (number : ℕ) → done ≤ number → number < length t.metaslabs → IsSettledTo group number p
