use Rattle.std.proofs.Common.{◌∙◌, ◌<◌, ◌^◌, ℕ, None, sym, ap, subst}
use Rattle.std.proofs.lemmas.List.{append-nil}
use Rattle.txg_gate.specs.GateState.{GateState, open_of}
use Rattle.ms_cell.specs.Passes.{Passes}
use Rattle.ms_cell.proofs.Gating.{turned_gate_by, gate_opened, quiesced_so}
use Rattle.ms_cell.proofs.gates.quiesced_at.Goals as goal

pub returns : goal.returns
returns g c = λ right seated.
    let p : Passes = record { gate = c.passes.inside.gate; metaslabs = c.passes.inside.metaslabs.items } in
    let took = c.take-held in
    let x = c.value-gate.result.now in
    turned_gate_by right c.args.cells.now _ p c.args.passes.now took.new.pass c.give.new.pass took.result x took.result None c.value-gate.ensures c.passes.view_is seated
    took.ensures.pass took.ensures.seen took.ensures.whole c.give.ensures.pass (ap (λ (y : GateState). y.notes) (sym c.value-gate.ensures) ∙ sym (append-nil x.notes)) tt
    (quiesced_so c.args.cells.now.opened c.args.group _ x (gate_opened right c.args.cells.now p c.args.passes.now took.result x c.value-gate.ensures c.passes.view_is seated took.ensures.stands) (subst (λ (n : ℕ). n < open_of x) c.synced.ensures.group c.synced.ensures.near.0) (subst (λ (n : ℕ). n < 2 ^ 50) c.open_group.ensures.group c.open_group.ensures.small) c.quiesced-quiesced.ensures)
