use Rattle.std.proofs.Common.{◌+◌, ◌-◌, arith}
use Rattle.uber_ring.proofs.Pieces.{puts_number}
use Rattle.uber_ring.proofs.fields.put_u32.Goals as goal

pub returns : goal.returns
returns c = puts_number c.args.bytes.now c.write_u32.new.buf c.args.at 4 (c.args.at + 4 - c.args.at) c.args.value (omega arith) c.write_u32.ensures c.requires (omega arith)
