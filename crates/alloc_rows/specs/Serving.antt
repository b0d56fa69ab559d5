-- What the loader of the rows needs of its passes, and keeps.
use Rattle.std.specs.Prelude.{◌≡◌, ℕ, ◌<◌, Bool, false, length}
use Rattle.ms_model.specs.Units.{collected_group}
use Rattle.ms_cell.specs.Turns.{Turns}
use Rattle.ms_cell.specs.Passes.{Passes, Seated, origin_in, seen_in}

-- no group was collected yet
abbrev pub AreUncollected : Turns → Passes → Type 0
AreUncollected t p = (k : ℕ) → k < length t.metaslabs → collected_group (origin_in p k) (seen_in p k) ≡ t.opened

-- the keeper's passes and the other lane's
pub record IsServing (t : Turns) (keeper other : Passes) (collected : Bool) : Type 0 where
  pub keeper_at : Seated 0 t keeper
  pub other_at : Seated 2 t other
  pub uncollected : collected ≡ false → AreUncollected t keeper

-- passes stay the keeper's, and nothing was collected
abbrev pub Keeps : Passes → Passes → Type 0
Keeps p q = (t : Turns) → Seated 0 t p → Seated 0 t q × (AreUncollected t p → AreUncollected t q)
