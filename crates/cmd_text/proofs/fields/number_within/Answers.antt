use Rattle.std.proofs.Common.{◌≡◌, sym, ◌∙◌, arith}
use Rattle.std.proofs.lemmas.Fmt.{decimal_injective}
use Rattle.cmd_text.proofs.fields.number_within.Goals as goal

pub returns-else-number-max-clause-none : goal.returns-else-number-max-clause-none
returns-else-number-max-clause-none c = λ n low is.
    let same : n ≡ c.in_ok-number.number =
    decimal_injective n c.in_ok-number.number (omega arith) (omega (arith, c.in_ok-number.ensures.some.1)) (is ∙ sym c.in_ok-number.ensures.some.0) in
    omega arith
