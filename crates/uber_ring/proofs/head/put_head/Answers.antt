use Rattle.uber_ring.proofs.HeadBytes.{head_written}
use Rattle.uber_ring.proofs.head.put_head.Goals as goal

pub returns : goal.returns
returns c =
    let fields = c.put_fields.ensures in
    head_written c.put_fields.new.bytes c.put_bytes.new.bytes c.digest_of-digest.result c.args.head.now fields.text fields.version fields.flush fields.log fields.zeros c.digest_of-digest.ensures c.put_bytes.ensures c.requires.limits
