use Rattle.std.proofs.Common.{◌+◌, ◌-◌, arith}
use Rattle.uber_ring.proofs.Pieces.{puts_number}
use Rattle.meta_store.proofs.side_bytes.put_word.Goals as goal

pub returns : goal.returns
returns c = puts_number c.args.bytes.now c.write_u64.new.buf c.args.at 8 (c.args.at + 8 - c.args.at) c.args.word (omega arith) c.write_u64.ensures c.requires (omega arith)
