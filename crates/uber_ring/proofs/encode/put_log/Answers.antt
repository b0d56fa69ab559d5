use Rattle.std.proofs.Common.{rules}
use Rattle.uber_ring.proofs.Encoded.{log_put}
use Rattle.uber_ring.proofs.encode.put_log.Goals as goal

pub returns-clause-row : goal.returns-clause-row
returns-clause-row c = log_put c.args.bytes.now c.put_u64.new.bytes c.put_u64-2.new.bytes c.put_bytes.new.bytes c.args.at c.args.row.now c.put_u64.ensures c.put_u64-2.ensures c.put_bytes.ensures (search rules)
