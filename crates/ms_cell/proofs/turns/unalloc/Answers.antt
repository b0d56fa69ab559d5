use Rattle.ms_cell.proofs.Turning.{turned_by}
use Rattle.ms_cell.proofs.turns.unalloc.Goals as goal

pub returns : goal.returns
returns g c =
    let took = c.take_near-held in
    let act = c.unalloc-answer in
    turned_by c.args.lane c.args.cell.now _ c.args.pass.now took.new.pass c.give.new.pass took.result c.value_mut.result.now act.new.metaslab act.result.1 c.value_mut.ensures.value
    c.requires.ready took.ensures.pass took.ensures.seen took.ensures.whole took.ensures.stands c.give.ensures.pass act.ensures.notes act.ensures.own act.ensures.answer
