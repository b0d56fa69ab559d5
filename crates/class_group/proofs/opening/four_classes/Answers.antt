use Rattle.class_group.proofs.Places.{first_none}
use Rattle.class_group.proofs.opening.four_classes.Goals as goal

pub add_class-requires-clause-so_far : goal.add_class-requires-clause-so_far
add_class-requires-clause-so_far c =
    first_none c.args.layout.now.vdevs c.args.weights.now c.in_ok-cells.cells.items c.in_ok-passes.passes.items c.in_ok-cells.ensures.items c.in_ok-passes.ensures.items
