use Rattle.std.proofs.Common.{rules, ◌+◌, ◌<◌, subst, arith}
use Rattle.ms_cell.specs.Turns.{Turns, AreCells}
use Rattle.pool_alloc.proofs.undoing.end_on.Goals as goal

pub overflow_add-result : goal.overflow_add-result
overflow_add-result g c =
    let cells : AreCells c.args.cells.now = subst (λ (t : Turns). AreCells t) c.cells.view_is c.cells.invariant in
    let small : c.args.seg.start + c.args.seg.count < 4294967296 = omega (arith, c.requires.segment.within, (cells.vdevs.units c.args.id.vdev c.requires.id.vdev).most) in
    search (rules, small)
