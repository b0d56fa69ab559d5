use Rattle.std.proofs.Common.{◌<◌, length, ap, arith}
use Rattle.turn_passes.proofs.Pairs.{read_at}
use Rattle.ms_cell.specs.Turns.{Turns, turns_in}
use Rattle.ms_cell.specs.Passes.{Passes}
use Rattle.ms_cell.proofs.Ending.{idle_in}
use Rattle.cell_rows.proofs.forms.are_busy.Goals as goal

pub held_is_busy-requires-clause-pass : goal.held_is_busy-requires-clause-pass
held_is_busy-requires-clause-pass g c =
    let t = turns_in c.cells.inside in
    let p : Passes = record { gate = c.rest.inside.gate; metaslabs = c.rest.inside.metaslabs.items } in
    let idle = idle_in t c.args.cells.now p c.args.rest.now c.cells.view_is c.rest.view_is c.requires.rest in
    let some : 0 < length t.metaslabs = omega (arith, ap (λ (x : Turns). length x.metaslabs) c.cells.view_is, c.count_of.ensures, c.if-count_of-lt2.false) in
    let both : 0 < length p.metaslabs = omega (arith, c.requires.rest.know.count, ap (λ (x : Passes). length x.metaslabs) c.rest.view_is, ap (λ (x : Turns). length x.metaslabs) c.cells.view_is) in
    idle.at 0 c.index.result.now c.index_mut.result.now (read_at t.metaslabs 0 c.index.result.now some c.index.ensures) (read_at p.metaslabs 0 c.index_mut.result.now both c.index_mut.ensures.value)
