use Rattle.std.proofs.Common.{◌≡◌, sym, ◌∙◌, arith}
use Rattle.std.proofs.lemmas.Fmt.{decimal_injective}
use Rattle.vdev_text.proofs.vdev.number_between.Goals as goal

pub returns-else-least-number-clause-none : goal.returns-else-least-number-clause-none
returns-else-least-number-clause-none c = λ n between is.
    let same : n ≡ c.in_ok-number.number =
    decimal_injective n c.in_ok-number.number (omega (arith, between.high)) (omega (arith, c.in_ok-number.ensures.some.1)) (is ∙ sym c.in_ok-number.ensures.some.0) in
    omega (arith, same, between.low)
