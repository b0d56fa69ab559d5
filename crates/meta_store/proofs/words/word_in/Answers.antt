use Rattle.std.proofs.Common.{◌-◌, length, ◌∙◌, arith}
use Rattle.uber_ring.proofs.Pieces.{number_in_slice}
use Rattle.meta_store.proofs.words.word_in.Goals as goal

pub returns : goal.returns
returns c = c.read_u64.ensures ∙ number_in_slice c.args.bytes.now c.args.at 8 (length c.args.bytes.now - c.args.at) (omega arith)
