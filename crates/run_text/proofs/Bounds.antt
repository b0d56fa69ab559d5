-- How many bytes a metaslab may have.
use Rattle.std.proofs.Common.{ℕ, ◌*◌, ◌^◌, ◌<◌, ◌≤◌, arith}
use Rattle.std.proofs.lemmas.Nat.{mul-le}
use Rattle.std.proofs.Math.Pow.{pow_mono}

pub bytes_few : (units ashift : ℕ) → units < 2 ^ 32 → ashift ≤ 12 → units * 2 ^ ashift ≤ 2 ^ 44
bytes_few units ashift few shift = mul-le units (2 ^ ashift) 4294967296 4096 (omega arith) (pow_mono {i = ashift} {j = 12} shift)
