use Rattle.std.proofs.Common.{◌^◌, rules, subst}
use Rattle.vdev_map.specs.Numbers.{row_at}
use Rattle.ms_cell.specs.Turns.{Turns, AreCells}
use Rattle.pool_alloc.specs.Asks.{AreUnitsOn}
use Rattle.pool_alloc.proofs.SegPlaces.{few_units, unit_bytes}
use Rattle.pool_alloc.proofs.places.units_on.Goals as goal

pub returns-clause-most : goal.returns-clause-most
returns-clause-most g c =
    let vdevs = c.args.cells.now.vdevs in
    let cells : AreCells c.args.cells.now = subst (λ (t : Turns). AreCells t) c.cells.view_is c.cells.invariant in
    let units : AreUnitsOn vdevs c.args.vdev c.args.size c.in-Ok.count = search (rules, c.cells.view_is, c.as_slice.ensures, c.in-Ok.ensures.units) in
    few_units c.args.size (2 ^ (row_at vdevs c.args.vdev).ashift) c.in-Ok.count (unit_bytes vdevs cells.vdevs c.args.vdev c.requires.vdev) c.requires.size.1 units.least
