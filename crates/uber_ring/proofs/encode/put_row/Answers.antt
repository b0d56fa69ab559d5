use Rattle.uber_ring.proofs.Encoded.{row_put}
use Rattle.uber_ring.proofs.encode.put_row.Goals as goal

pub returns-clause-row : goal.returns-clause-row
returns-clause-row c =
    row_put c.args.bytes.now c.put_u64.new.bytes c.put_u64-2.new.bytes c.put_u64-3.new.bytes c.put_u64-4.new.bytes c.put_u32.new.bytes c.args.at c.args.row.now
    c.put_u64.ensures c.put_u64-2.ensures c.put_u64-3.ensures c.put_u64-4.ensures c.put_u32.ensures c.requires.zeros
