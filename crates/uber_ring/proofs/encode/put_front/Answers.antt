use Rattle.uber_ring.proofs.Encoded.{front_put}
use Rattle.uber_ring.proofs.encode.put_front.Goals as goal

pub returns-clause-front : goal.returns-clause-front
returns-clause-front c =
    front_put c.args.bytes.now c.put_bytes.new.bytes c.put_u64.new.bytes c.put_u32.new.bytes c.put_u32-2.new.bytes c.put_u32-3.new.bytes c.args.group c.args.vdevs c.args.metaslabs c.args.logs
    c.put_bytes.ensures c.put_u64.ensures c.put_u32.ensures c.put_u32-2.ensures c.put_u32-3.ensures c.requires.zeros
