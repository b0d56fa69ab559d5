use Rattle.zms_top.proofs.run.read_script.Goals as goal

pub returns-in-Ok-clause-read : goal.returns-in-Ok-clause-read
returns-in-Ok-clause-read g c = record { rest = λ tells. c.in_default.ensures.rest tells; steady = c.in_default.ensures.cause.steady }
