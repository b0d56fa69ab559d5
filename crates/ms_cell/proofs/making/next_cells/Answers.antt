use Rattle.std.proofs.Common.{◌+◌}
use Rattle.ms_cell.specs.Turns.{turns_in}
use Rattle.ms_cell.specs.Passes.{Passes}
use Rattle.ms_cell.proofs.Gathering.{rests_in, fresh_in, alike_in}
use Rattle.ms_cell.proofs.making.next_cells.Goals as goal

pub returns-clause-rest : goal.returns-clause-rest
returns-clause-rest g c =
    let p : Passes = record { gate = c.rest.inside.gate; metaslabs = c.rest.inside.metaslabs.items } in
    let q : Passes = record { gate = c.next_pass-gate.new.rest; metaslabs = c.next_passes.new.rests.items } in
    let lists = c.in_ok-metaslabs.ensures in
    let gate = c.next_pass-gate.ensures in
    rests_in (c.args.right + 1) (turns_in c.cells.inside) c.args.cells.now p c.args.rest.now q c.deref.result.now c.cells.view_is c.rest.view_is c.deref.ensures.value c.requires.rest.know gate.rest gate.fixed.0
    lists.size lists.rests lists.fixed

pub returns-clause-fresh : goal.returns-clause-fresh
returns-clause-fresh g c =
    let p : Passes = record { gate = c.rest.inside.gate; metaslabs = c.rest.inside.metaslabs.items } in
    let q : Passes = record { gate = c.next_pass-gate.result; metaslabs = c.in_ok-metaslabs.metaslabs.items } in
    let lists = c.in_ok-metaslabs.ensures in
    let gate = c.next_pass-gate.ensures in
    fresh_in c.args.right (turns_in c.cells.inside) c.args.cells.now p c.args.rest.now q c.deref.result.now c.cells.view_is c.rest.view_is c.deref.ensures.value c.requires.rest.know gate.fresh gate.fixed.1
    lists.count lists.fresh lists.same

pub returns-clause-same : goal.returns-clause-same
returns-clause-same g c =
    let p : Passes = record { gate = c.rest.inside.gate; metaslabs = c.rest.inside.metaslabs.items } in
    let q : Passes = record { gate = c.next_pass-gate.new.rest; metaslabs = c.next_passes.new.rests.items } in
    let rest = returns-clause-rest g c in
    alike_in c.args.cells.now p c.args.rest.now q c.rest.view_is c.requires.rest.know rest.know c.next_pass-gate.ensures.fixed.0 c.in_ok-metaslabs.ensures.fixed

pub returns-clause-alike : goal.returns-clause-alike
returns-clause-alike g c =
    let p : Passes = record { gate = c.rest.inside.gate; metaslabs = c.rest.inside.metaslabs.items } in
    let q : Passes = record { gate = c.next_pass-gate.result; metaslabs = c.in_ok-metaslabs.metaslabs.items } in
    let fresh = returns-clause-fresh g c in
    alike_in c.args.cells.now p c.args.rest.now q c.rest.view_is c.requires.rest.know fresh.know c.next_pass-gate.ensures.fixed.1 c.in_ok-metaslabs.ensures.same
