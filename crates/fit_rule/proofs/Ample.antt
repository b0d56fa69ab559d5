-- What a short longest run tells.
use Rattle.std.proofs.Common.{ℕ, ◌*◌, ◌^◌, ◌<◌, Bool, true, false, arith}
use Rattle.std.specs.Bool.{OnFalse}
use Rattle.std.proofs.Math.Nat.{mul-le-mul_right}
use Rattle.zms_units.specs.Limits.{AMPLE_BYTES}
use Rattle.zms_units.specs.Runs.{IsAmple, IsLargest}

-- no run is long enough for space to be ample
pub too_short : (set : ℕ → Bool) (units ashift largest : ℕ) → IsLargest set units largest → largest * 2 ^ ashift < AMPLE_BYTES → IsAmple set units ashift → ⊥
too_short set units ashift largest is_largest short ample =
    let long = ample.long in
    omega (arith, mul-le-mul_right (2 ^ ashift) (is_largest.bounds ample.run ample.maximal))

-- what holds at all holds where a test fails
pub on_false : (b : Bool) (P : Type 0) → P → OnFalse b P
on_false true P p = tt
on_false false P p = p
