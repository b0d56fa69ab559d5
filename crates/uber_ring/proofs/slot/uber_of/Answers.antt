use Rattle.uber_ring.proofs.slot.uber_of.Goals as goal

pub returns-in_default : goal.returns-in_default
returns-in_default c uber valid = c.in_default.ensures uber valid.body.fields
