use Rattle.std.proofs.Common.{◌∙◌}
use Rattle.std.proofs.lemmas.List.{get_or-replicate}
use Rattle.uber_ring.proofs.slot.slot_body.Goals as goal

pub returns-clause-zeros : goal.returns-clause-zeros
returns-clause-zeros c k low high = c.write_body.ensures.behind k low ∙ get_or-replicate 1023 k 0 0 high
