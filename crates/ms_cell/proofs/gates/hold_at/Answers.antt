use Rattle.std.proofs.Common.{◌∙◌, None, refl, sym, ap}
use Rattle.std.proofs.lemmas.List.{append-nil}
use Rattle.ms_model.specs.Gates.{open_group}
use Rattle.txg_gate.specs.GateState.{GateState}
use Rattle.ms_cell.specs.Passes.{Passes}
use Rattle.ms_cell.proofs.Gating.{turned_gate_by, gate_opened}
use Rattle.ms_cell.proofs.gates.hold_at.Goals as goal

pub returns : goal.returns
returns g c = λ right seated.
    let p : Passes = record { gate = c.passes.inside.gate; metaslabs = c.passes.inside.metaslabs.items } in
    let took = c.take-held in
    let x = c.value_mut.result.now in
    turned_gate_by right c.args.cells.now _ p c.args.passes.now took.new.pass c.give.new.pass took.result x c.hold-hold.new.self None c.value_mut.ensures.value c.passes.view_is seated
    took.ensures.pass took.ensures.seen took.ensures.whole c.give.ensures.pass (ap (λ (y : GateState). y.notes) c.hold-hold.ensures.stays ∙ sym (append-nil x.notes)) tt
    (refl, c.hold-hold.ensures.group ∙ ap (λ o. open_group o x.notes) (gate_opened right c.args.cells.now p c.args.passes.now took.result x c.value_mut.ensures.value c.passes.view_is seated took.ensures.stands))
