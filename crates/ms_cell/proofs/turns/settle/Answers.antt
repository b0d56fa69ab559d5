use Rattle.std.proofs.Common.{◌+◌, ◌≤◌, ℕ, Some, refl, ap, ◌∙◌, subst}
use Rattle.ms_cell.proofs.Turning.{turned_by}
use Rattle.ms_cell.proofs.Keeping.{settled_at, collected_at}
use Rattle.ms_cell.proofs.turns.settle.Goals as goal

pub settle-requires-clause-group : goal.settle-requires-clause-group
settle-requires-clause-group g c =
    let took = c.take-held in
    c.requires.next ∙ ap (λ k. k + 1) (settled_at c.args.cell.now c.args.pass.now took.new.pass took.result c.value_mut.result.now c.value_mut.ensures.value c.requires.ready took.ensures.pass took.ensures.whole took.ensures.stands)

pub settle-requires-clause-collected : goal.settle-requires-clause-collected
settle-requires-clause-collected g c =
    let took = c.take-held in
    subst (λ (k : ℕ). c.args.group.0 ≤ k) (collected_at c.args.cell.now c.args.pass.now took.new.pass took.result c.value_mut.result.now c.value_mut.ensures.value c.requires.ready took.ensures.pass took.ensures.whole took.ensures.stands) c.requires.collected

pub returns : goal.returns
returns g c =
    let took = c.take-held in
    turned_by 0 c.args.cell.now _ c.args.pass.now took.new.pass c.give.new.pass took.result c.value_mut.result.now c.settle.new.self (Some _) c.value_mut.ensures.value
    c.requires.ready took.ensures.pass took.ensures.seen took.ensures.whole took.ensures.stands c.give.ensures.pass c.settle.ensures.note refl (
      refl,
      (
        c.requires.next ∙ ap (λ k. k + 1) (settled_at c.args.cell.now c.args.pass.now took.new.pass took.result c.value_mut.result.now c.value_mut.ensures.value c.requires.ready took.ensures.pass took.ensures.whole took.ensures.stands),
        subst (λ (k : ℕ). c.args.group.0 ≤ k) (collected_at c.args.cell.now c.args.pass.now took.new.pass took.result c.value_mut.result.now c.value_mut.ensures.value c.requires.ready took.ensures.pass took.ensures.whole took.ensures.stands) c.requires.collected,
      ),
    )
