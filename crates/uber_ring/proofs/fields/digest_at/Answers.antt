use Rattle.std.proofs.Common.{◌+◌, ◌-◌, ◌≡◌, ap, ◌∙◌, take, drop, ℕ, arith}
use Rattle.uber_ring.proofs.Pieces.{slice_is}
use Rattle.uber_ring.proofs.fields.digest_at.Goals as goal

pub returns : goal.returns
returns c =
    let n : c.args.at + 32 - c.args.at ≡ 32 = omega arith in
    c.copy_from_slice.ensures.after ∙ ap (λ (n : ℕ). take n (drop c.args.at c.args.bytes.now)) n ∙ slice_is c.args.bytes.now c.args.at 32 c.requires
