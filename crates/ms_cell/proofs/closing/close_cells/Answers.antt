use Rattle.std.proofs.Common.{List, subst}
use Rattle.std.specs.List.{All}
use Rattle.ms_core.specs.State.{MsState}
use Rattle.ms_cell.specs.Turns.{turns_in}
use Rattle.ms_cell.specs.Passes.{Passes}
use Rattle.ms_cell.specs.Closed.{IsLawful}
use Rattle.ms_cell.proofs.Ending.{closed_in, idle_in}
use Rattle.ms_cell.proofs.closing.close_cells.Goals as goal

pub close_turns-metaslabs-requires-clause-idle : goal.close_turns-metaslabs-requires-clause-idle
close_turns-metaslabs-requires-clause-idle g c κs within =
    let p : Passes = record { gate = c.passes.inside.gate; metaslabs = c.passes.inside.metaslabs.items } in
    idle_in (turns_in c.cells.inside) c.args.cells p c.args.passes c.cells.view_is c.passes.view_is c.requires.idle

pub returns : goal.returns
returns g c =
    let p : Passes = record { gate = c.passes.inside.gate; metaslabs = c.passes.inside.metaslabs.items } in
    let gate = c.close_turn-gate.ensures in
    let lists = c.close_turns-metaslabs.ensures in
    closed_in (turns_in c.cells.inside) c.args.cells p c.args.passes c.close_turn-gate.result c.close_turns-metaslabs.result.items c.cells.view_is c.passes.view_is c.requires.idle
    lists.count gate.stands gate.ends c.synced.ensures.legal c.synced.ensures.lanes gate.rights lists.ends lists.stands lists.rights
    (subst (λ (l : List MsState). All IsLawful l) c.as_slice.ensures.value c.look_over.ensures)
