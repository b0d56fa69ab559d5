use Rattle.std.proofs.Common.{◌+◌, ◌∙◌, ap}
use Rattle.ms_cell.proofs.Turning.{turned_by}
use Rattle.ms_cell.proofs.Keeping.{collected_at}
use Rattle.ms_cell.proofs.turns.collect.Goals as goal

pub returns : goal.returns
returns g c =
    let took = c.take-held in
    let act = c.collect-answer in
    turned_by 0 c.args.cell.now _ c.args.pass.now took.new.pass c.give.new.pass took.result c.value_mut.result.now act.new.metaslab act.result.1 c.value_mut.ensures.value
    c.requires.ready took.ensures.pass took.ensures.seen took.ensures.whole took.ensures.stands c.give.ensures.pass act.ensures.notes act.ensures.own act.ensures.answer

pub collect-answer-requires-clause-group : goal.collect-answer-requires-clause-group
collect-answer-requires-clause-group g c =
    let took = c.take-held in
    c.requires.group ∙ ap (λ k. k + 1) (collected_at c.args.cell.now c.args.pass.now took.new.pass took.result c.value_mut.result.now c.value_mut.ensures.value c.requires.ready took.ensures.pass took.ensures.whole took.ensures.stands)
