use Rattle.std.proofs.Common.{◌-◌, length, ◌∙◌, arith}
use Rattle.uber_ring.proofs.Pieces.{number_in_slice}
use Rattle.meta_store.proofs.heads.version_in.Goals as goal

pub returns : goal.returns
returns c = c.read_u32.ensures ∙ number_in_slice c.args.bytes.now 8 4 (length c.args.bytes.now - 8) (omega arith)
