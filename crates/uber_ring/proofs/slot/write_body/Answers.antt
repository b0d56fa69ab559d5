use Rattle.uber_ring.proofs.SlotBytes.{body_written}
use Rattle.uber_ring.proofs.slot.write_body.Goals as goal

pub returns-clause-body : goal.returns-clause-body
returns-clause-body c =
    body_written c.write_fields.new.bytes c.put_bytes.new.bytes c.digest_of-digest.result c.args.uber.now c.write_fields.ensures.is c.digest_of-digest.ensures c.put_bytes.ensures
