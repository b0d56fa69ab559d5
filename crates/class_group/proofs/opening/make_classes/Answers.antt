use Rattle.std.proofs.Common.{◌≡◌, ℕ, List, sym, subst, ◌∙◌}
use Rattle.zms_units.specs.declared.places.VdevRow.{VdevRow}
use Rattle.class_group.specs.Turns.{ClassTurns}
use Rattle.class_group.specs.Opening.{AreFirst}
use Rattle.class_group.proofs.Places.{rests_of}
use Rattle.class_group.proofs.opening.make_classes.Goals as goal

pub returns-clause-rests : goal.returns-clause-rests
returns-clause-rests c =
    let vdevs : c.from_vec.result ≡ c.args.layout.now.vdevs = c.from_vec.ensures ∙ (c.in_ok-vdevs.ensures.items ∙ c.as_slice.ensures) in
    let turns = c.in_ok-cells.cells.items in
    let passes = c.in_ok-cells.passes.items in
    let t : ClassTurns = record { vdevs = c.from_vec.result; weights = c.of.result.value; cells = turns } in
    rests_of t passes
    (subst (λ (w : List ℕ). AreFirst c.from_vec.result w 4 turns passes) (sym c.of.ensures)
    (subst (λ (v : List VdevRow). AreFirst v c.args.weights.now 4 turns passes) (sym vdevs) c.in_ok-cells.ensures))
