use Rattle.std.proofs.Common.{◌+◌, ◌-◌, ◌≡◌, ap, ◌∙◌, take, drop, ℕ, arith}
use Rattle.sha2.specs.Sha256.{sha256}
use Rattle.uber_ring.proofs.Pieces.{slice_is}
use Rattle.uber_ring.proofs.fields.digest_of.Goals as goal

pub returns : goal.returns
returns c =
    let n : c.args.at + c.args.n - c.args.at ≡ c.args.n = omega arith in
    c.digest.ensures ∙ ap sha256 (ap (λ (n : ℕ). take n (drop c.args.at c.args.bytes.now)) n ∙ slice_is c.args.bytes.now c.args.at c.args.n c.requires)
