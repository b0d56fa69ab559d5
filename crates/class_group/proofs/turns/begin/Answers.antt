use Rattle.std.proofs.Common.{◌≡◌, ◌++◌, [], None, refl, sym, subst}
use Rattle.std.proofs.lemmas.List.{append-nil}
use Rattle.class_core.specs.Classes.{ClassState}
use Rattle.class_group.proofs.Turning.{turned_by}
use Rattle.class_group.proofs.turns.begin.Goals as goal

pub returns : goal.returns
returns g c = λ right ready.
    let took = c.take-held in
    let m = c.value.result.now in
    turned_by right c.args.cell.now _ c.args.pass.now took.new.pass c.give.new.pass took.result m took.result None c.value.ensures
    ready took.ensures.pass took.ensures.seen took.ensures.whole took.ensures.stands c.give.ensures.pass
    (subst (λ (y : ClassState). took.result.notes ≡ y.notes ++ []) (sym c.value.ensures) (sym (append-nil took.result.notes))) tt
    (record { quiet = refl; answer = c.begin-vdev.ensures })
