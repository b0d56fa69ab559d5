use Rattle.std.proofs.Common.{◌≡◌, sym, ◌∙◌, arith}
use Rattle.std.proofs.lemmas.Fmt.{decimal_injective}
use Rattle.cmd_text.proofs.fields.number.Goals as goal

pub returns-else-number-clause-none : goal.returns-else-number-clause-none
returns-else-number-clause-none c = λ n fits is.
    let same : n ≡ c.in_ok-number.number = decimal_injective n c.in_ok-number.number (omega (arith, fits)) (omega arith) (is ∙ sym c.in_ok-number.ensures.some) in
    omega arith
