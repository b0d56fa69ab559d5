use Rattle.std.proofs.Common.{◌≡◌, ◌+◌, List, length, ap, sym, subst, ◌∙◌}
use Rattle.turn_cell.specs.Known.{TableId}
use Rattle.turn_passes.specs.Parts.{IsRest, IsFresh}
use Rattle.turn_passes.specs.Pairs.{Each}
use Rattle.class_group.specs.Turns.{ClassTurns}
use Rattle.class_group.specs.Passes.{ClassKnown}
use Rattle.class_group.proofs.Gathering.{rests_next, fresh_next}
use Rattle.class_group.proofs.making.next_classes.Goals as goal

pub returns-clause-rest : goal.returns-clause-rest
returns-clause-rest c =
    let t = c.args.classes.now in
    let p = c.args.rest.now in
    let lists = c.in_ok-cells.ensures in
    let board = c.deref.ensures.value ∙ ap (λ (x : ClassTurns). x.cells) c.classes.view_is in
    let q = c.next_passes.new.rests.items in
    rests_next (c.args.right + 1) t p q c.requires.rest.know
    (subst (λ (l : List ClassKnown). Each (λ k x y. y.fixed ≡ x.fixed) l q) c.rest.view_is lists.fixed)
    (lists.size ∙ ap length c.rest.view_is)
    (subst (λ (l : List TableId). Each (λ k turn x. IsRest (c.args.right + 1) turn x) l q) board lists.rests)

pub returns-clause-fresh : goal.returns-clause-fresh
returns-clause-fresh c =
    let t = c.args.classes.now in
    let p = c.args.rest.now in
    let lists = c.in_ok-cells.ensures in
    let board = c.deref.ensures.value ∙ ap (λ (x : ClassTurns). x.cells) c.classes.view_is in
    let q = c.in_ok-cells.cells.items in
    fresh_next c.args.right t p q c.requires.rest.know
    (subst (λ (l : List ClassKnown). Each (λ k x y. y.fixed ≡ x.fixed) l q) c.rest.view_is lists.same)
    (lists.count ∙ ap length board)
    (subst (λ (l : List TableId). Each (λ k turn x. IsFresh c.args.right turn x) l q) board lists.fresh)

pub returns-clause-same : goal.returns-clause-same
returns-clause-same c = record {
  count = c.in_ok-cells.ensures.size ∙ ap length c.rest.view_is;
  each = subst (λ (l : List ClassKnown). Each (λ k x y. y.fixed ≡ x.fixed) l c.next_passes.new.rests.items) c.rest.view_is c.in_ok-cells.ensures.fixed;
}

pub returns-clause-alike : goal.returns-clause-alike
returns-clause-alike c =
    let fresh = returns-clause-fresh c in
    record {
      count = sym fresh.know.count ∙ c.requires.rest.know.count;
      each = subst (λ (l : List ClassKnown). Each (λ k x y. y.fixed ≡ x.fixed) l c.in_ok-cells.cells.items) c.rest.view_is c.in_ok-cells.ensures.same;
    }
