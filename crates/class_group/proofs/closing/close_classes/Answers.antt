use Rattle.std.proofs.Common.{List, length, sym, ap, subst, ◌∙◌}
use Rattle.turn_cell.specs.Known.{TableId}
use Rattle.turn_passes.specs.Parts.{IsIdle}
use Rattle.turn_passes.specs.Pairs.{Each}
use Rattle.class_group.specs.Turns.{ClassTurns, AreClasses}
use Rattle.class_group.specs.Passes.{ClassKnown}
use Rattle.class_group.specs.Closed.{IsHandedBack}
use Rattle.class_group.proofs.Ending.{closed}
use Rattle.class_group.proofs.closing.close_classes.Goals as goal

pub close_all-requires-clause-count : goal.close_all-requires-clause-count
close_all-requires-clause-count g c =
    ap (λ (t : ClassTurns). length t.cells) c.classes.view_is ∙ (c.requires.idle.know.count ∙ ap length (sym c.passes.view_is))

pub close_all-requires-clause-idle : goal.close_all-requires-clause-idle
close_all-requires-clause-idle g c =
    subst (λ (l : List TableId). Each (λ k turn x. IsIdle turn x) l c.passes.inside.cells.items) (sym (ap (λ (t : ClassTurns). t.cells) c.classes.view_is))
    (subst (λ (l : List ClassKnown). Each (λ k turn x. IsIdle turn x) c.args.classes.cells l) (sym c.passes.view_is) c.requires.idle.each)

pub returns : goal.returns
returns g c =
    closed c.args.classes c.args.passes c.close_all.result.items (subst (λ (t : ClassTurns). AreClasses t) c.classes.view_is c.classes.invariant) c.requires.idle
    (c.close_all.ensures.count ∙ ap (λ (t : ClassTurns). length t.cells) c.classes.view_is)
    (subst (λ (l : List ClassKnown). Each (λ k x j. IsHandedBack x j) l c.close_all.result.items) c.passes.view_is c.close_all.ensures.backs)
