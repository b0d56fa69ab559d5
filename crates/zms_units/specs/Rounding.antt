use Rattle.std.specs.Prelude.{ℕ, ◌+◌, ◌*◌, ◌^◌, ◌<◌, ◌≤◌}

-- the least number of whole units of 2^ashift bytes that hold so many bytes
pub record AreUnitsOf (size ashift count : ℕ) : Type 0 where
  pub enough : size ≤ count * 2 ^ ashift
  pub least : count * 2 ^ ashift < size + 2 ^ ashift
