use Rattle.std.specs.Prelude.{ℕ, Bool}

-- what a metaslab was when its pool was opened: its units and their shift, the group that was opened, and the units
-- that this group held, as a test of a unit (the base)
pub record Origin : Type 0 where
  pub units : ℕ
  pub ashift : ℕ
  pub opened : ℕ
  pub base : ℕ → Bool
