use Rattle.std.proofs.Common.{◌≡◌, ◌++◌, arith, ap, sym, ◌∙◌}
use Rattle.std.specs.Prelude.{codes}
use Rattle.std.proofs.lemmas.List.{append_cancel_left}
use Rattle.std.proofs.lemmas.Fmt.{decimal_injective}
use Rattle.zms_top.specs.Words.{group_word}
use Rattle.zms_top.proofs.words.group_of_word.Goals as goal

pub returns-else-group-lt-NUMBERS_END-clause-none : goal.returns-else-group-lt-NUMBERS_END-clause-none
returns-else-group-lt-NUMBERS_END-clause-none c = λ group short is.
    let made : group_word c.in_ok-group.group ≡ c.args.word.now = ap (λ l. codes "--group=" ++ l) c.in_ok-group.ensures.some ∙ c.in_ok-after.ensures.some in
    let same : group ≡ c.in_ok-group.group =
    decimal_injective group c.in_ok-group.group (omega (arith, short)) (omega arith) (append_cancel_left (codes "--group=") _ _ (is ∙ sym made)) in
    omega arith
