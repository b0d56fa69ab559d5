use Rattle.std.proofs.Common.{arith}
use Rattle.class_core.proofs.Keeping.{slice_found}
use Rattle.class_core.proofs.cell.place_of.Goals as goal

pub unreachable-requires : goal.unreachable-requires
unreachable-requires c =
    let found = slice_found c.args.groups.now c.requires.0 c.args.vdev c.requires.1 in
    c.loop-place.invariant c.requires.0 (omega (arith, found.0, c.loop-place-test.false)) found.1
