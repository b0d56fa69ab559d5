use Rattle.class_group.specs.Turns.{place_of}
use Rattle.class_group.proofs.Places.{first_more}
use Rattle.class_group.proofs.opening.add_class.Goals as goal

pub returns : goal.returns
returns c =
    first_more c.args.layout.now.vdevs c.args.weights.now (place_of c.args.class) c.args.cells.now.items c.push.new.self.items c.args.passes.now.items c.push-2.new.self.items c.in_ok-cell.cell c.in_ok-cell.rest
    c.requires.so_far c.in_ok-push.ensures.items c.in_ok-push-2.ensures.items c.in_ok-cell.ensures.rest c.in_ok-cell.ensures.knows
