use Rattle.std.proofs.Common.{◌<◌}
use Rattle.std.proofs.lemmas.Nat.{one_shl, and_mask}
use Rattle.sm_entry.proofs.bits.decode.Goals as goal

pub returns : goal.returns
returns c = let short : c.args.len < 64 = c.requires.len in rw (one_shl c.args.len 64 short, and_mask)
