use Rattle.std.proofs.Common.{rules}
use Rattle.uber_ring.proofs.SlotBytes.{fields_written}
use Rattle.uber_ring.proofs.slot.write_fields.Goals as goal

pub returns-clause-is : goal.returns-clause-is
returns-clause-is c =
    fields_written c.args.bytes.now c.put_u64.new.bytes c.put_u64-2.new.bytes c.put_u64-3.new.bytes c.put_u64-4.new.bytes c.put_bytes.new.bytes c.args.uber.now
    c.put_u64.ensures c.put_u64-2.ensures c.put_u64-3.ensures c.put_u64-4.ensures c.put_bytes.ensures (search rules)
