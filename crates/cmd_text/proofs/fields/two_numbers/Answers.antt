use Rattle.std.proofs.Common.{arith}
use Rattle.cmd_text.proofs.Bytes.{if_none}
use Rattle.cmd_text.proofs.FieldLemmas.{same_numbers}
use Rattle.cmd_text.proofs.fields.two_numbers.Goals as goal

pub returns-in_err-first-2-clause-none : goal.returns-in_err-first-2-clause-none
returns-in_err-first-2-clause-none c =
    if_none c.from_residual-in_err-first-2.result _ (λ a b are.
    c.in_err-first-2.ensures.none a are.fits
    (same_numbers c.args.text.now c.args.first_max c.args.second_max a b c.in_ok-first.first.now c.in_ok-first.second.now (omega arith) are c.in_ok-first.ensures.some.0 c.in_ok-first.ensures.some.1).0)

pub returns-in_err-second-clause-none : goal.returns-in_err-second-clause-none
returns-in_err-second-clause-none c =
    if_none c.from_residual-in_err-second.result _ (λ a b are.
    c.in_err-second.ensures.none b are.also_fits
    (same_numbers c.args.text.now c.args.first_max c.args.second_max a b c.in_ok-first.first.now c.in_ok-first.second.now (omega arith) are c.in_ok-first.ensures.some.0 c.in_ok-first.ensures.some.1).1)
