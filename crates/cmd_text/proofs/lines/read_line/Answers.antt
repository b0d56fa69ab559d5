use Rattle.std.proofs.Common.{◌≡◌, sym, ◌∙◌, rules, arith}
use Rattle.std.proofs.lemmas.Fmt.{decimal_injective}
use Rattle.std.specs.Prelude.{codes}
use Rattle.cmd_text.proofs.Bytes.{if_none}
use Rattle.cmd_text.proofs.FieldLemmas.{headed, no_make, no_lane, numbers_once}
use Rattle.cmd_text.proofs.lines.read_line.Goals as goal

pub returns-in_err-number-clause-none : goal.returns-in_err-number-clause-none
returns-in_err-number-clause-none c =
    if_none c.from_residual-in_err-number.result _ (λ n r says.
    no_make n c.in_ok-first.first.now c.in_ok-first.rest.now r
    (headed n c.args.line.now c.in_ok-first.first.now c.in_ok-first.rest.now r says (search rules) c.in_ok-first.ensures.some.0 c.in_ok-first.ensures.some.1)
    (search rules) (λ number count some are. c.in_err-number.ensures.none number count are))

pub returns-then-count-eq0-clause-none : goal.returns-then-count-eq0-clause-none
returns-then-count-eq0-clause-none c = λ n r says.
    no_make n c.in_ok-first.first.now c.in_ok-first.rest.now r
    (headed n c.args.line.now c.in_ok-first.first.now c.in_ok-first.rest.now r says (search rules) c.in_ok-first.ensures.some.0 c.in_ok-first.ensures.some.1)
    (search rules) (λ number count some are.
    let same = numbers_once c.in_ok-first.rest.now 4294967295 200000 number count c.in_ok-number.number c.in_ok-number.count (omega arith) (omega arith) are c.in_ok-number.ensures.some in
    let zero_count : count ≡ c.in_ok-number.count = same.1 in omega arith)

pub returns-in_err-lane-clause-none : goal.returns-in_err-lane-clause-none
returns-in_err-lane-clause-none c =
    if_none c.from_residual-in_err-lane.result _ (λ n r says.
    no_lane n c.in_ok-first.first.now c.in_ok-first.rest.now r
    (headed n c.args.line.now c.in_ok-first.first.now c.in_ok-first.rest.now r says (search rules) c.in_ok-first.ensures.some.0 c.in_ok-first.ensures.some.1)
    (λ make. let same : c.in_ok-first.first.now ≡ codes "make" = sym make in search rules) (λ lane w low high is one two. c.in_err-lane.ensures.none lane high one))

pub returns-then-lane-eq0-clause-none : goal.returns-then-lane-eq0-clause-none
returns-then-lane-eq0-clause-none c = λ n r says.
    no_lane n c.in_ok-first.first.now c.in_ok-first.rest.now r
    (headed n c.args.line.now c.in_ok-first.first.now c.in_ok-first.rest.now r says (search rules) c.in_ok-first.ensures.some.0 c.in_ok-first.ensures.some.1)
    (λ make. let same : c.in_ok-first.first.now ≡ codes "make" = sym make in search rules)
    (λ lane w low high is one two.
    let same : lane ≡ c.in_ok-lane.lane = decimal_injective lane c.in_ok-lane.lane (omega arith) (omega (arith, c.in_ok-lane.ensures.some.1)) (one ∙ sym c.in_ok-lane.ensures.some.0) in omega arith)

pub returns-in_err-asks-clause-none : goal.returns-in_err-asks-clause-none
returns-in_err-asks-clause-none c =
    if_none c.from_residual-in_err-asks.result _ (λ n r says.
    no_lane n c.in_ok-first.first.now c.in_ok-first.rest.now r
    (headed n c.args.line.now c.in_ok-first.first.now c.in_ok-first.rest.now r says (search rules) c.in_ok-first.ensures.some.0 c.in_ok-first.ensures.some.1)
    (λ make. let same : c.in_ok-first.first.now ≡ codes "make" = sym make in search rules)
    (λ lane w low high is one two. c.in_err-asks.ensures.none w is two))
