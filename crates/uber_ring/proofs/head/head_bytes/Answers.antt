use Rattle.std.proofs.lemmas.List.{get_or-replicate}
use Rattle.uber_ring.proofs.head.head_bytes.Goals as goal

pub put_head-requires-clause-zeros : goal.put_head-requires-clause-zeros
put_head-requires-clause-zeros c k low high = get_or-replicate 64 k 0 0 high
