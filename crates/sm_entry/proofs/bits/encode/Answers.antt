use Rattle.std.proofs.Common.{◌≤◌, ◌+◌, arith}
use Rattle.std.proofs.lemmas.Nat.{shl_whole}
use Rattle.sm_entry.proofs.bits.encode.Goals as goal

pub returns : goal.returns
returns c =
    let within : c.args.len + c.args.low ≤ 64 = omega (arith, c.requires.within) in
    shl_whole c.args.value c.args.len c.args.low 64 c.requires.fits within
