use Rattle.pool_seats.proofs.weights.weight_in_one_run.Goals as goal

pub returns : goal.returns
returns c = record { hist = c.one_run.result; counts = c.one_run.ensures; weighs = c.weight_of.ensures }
