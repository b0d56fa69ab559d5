use Rattle.ms_cell.specs.Turns.{turns_in}
use Rattle.ms_cell.specs.Passes.{Passes}
use Rattle.ms_cell.proofs.Gathering.{rests_in, fresh_in}
use Rattle.keeper_rows.proofs.seats.keeper_passes.Goals as goal

pub returns-clause-rest : goal.returns-clause-rest
returns-clause-rest c =
    let p : Passes = record { gate = c.rest.inside.gate; metaslabs = c.rest.inside.metaslabs.items } in
    let q : Passes = record { gate = c.next_pass-gate.new.rest; metaslabs = c.next_passes.new.rests.items } in
    let lists = c.in_ok-metaslabs.ensures in
    let gate = c.next_pass-gate.ensures in
    rests_in 1 (turns_in c.cells.inside) c.args.cells.now p c.args.rest.now q c.deref.result.now c.cells.view_is c.rest.view_is c.deref.ensures.value c.requires.rest.know gate.rest gate.fixed.0
    lists.size lists.rests lists.fixed

pub returns-clause-fresh : goal.returns-clause-fresh
returns-clause-fresh c =
    let p : Passes = record { gate = c.rest.inside.gate; metaslabs = c.rest.inside.metaslabs.items } in
    let q : Passes = record { gate = c.next_pass-gate.result; metaslabs = c.in_ok-metaslabs.metaslabs.items } in
    let lists = c.in_ok-metaslabs.ensures in
    let gate = c.next_pass-gate.ensures in
    fresh_in 0 (turns_in c.cells.inside) c.args.cells.now p c.args.rest.now q c.deref.result.now c.cells.view_is c.rest.view_is c.deref.ensures.value c.requires.rest.know gate.fresh gate.fixed.1
    lists.count lists.fresh lists.same
