use Rattle.ms_cell.specs.Passes.{Passes}
use Rattle.ms_cell.proofs.Gating.{told_gate}
use Rattle.ms_cell.specs.Turns.{Turns}
use Rattle.std.proofs.Common.{◌≡◌, ap, sym, subst}
use Rattle.turn_cell.specs.Lanes.{Ready}
use Rattle.turn_cell.specs.Known.{TableId}
use Rattle.ms_model.specs.Parts.{gate_right}
use Rattle.ms_cell.proofs.making.tell_gate.Goals as goal

pub returns-clause-to : goal.returns-clause-to
returns-clause-to g c = λ right seated.
    let p : Passes = record { gate = c.to.inside.gate; metaslabs = c.to.inside.metaslabs.items } in
    let turn : c.args.cells.now.gate ≡ c.cells.inside.gate = ap (λ (t : Turns). t.gate) (sym c.cells.view_is) in
    let ready : Ready gate_right right c.args.cells.now.gate p.gate = subst (λ (x : Passes). Ready gate_right right c.args.cells.now.gate x.gate) (sym c.to.view_is) seated.gate in
    told_gate right c.args.cells.now p c.args.to.now c.tell_pass.new.to c.to.view_is seated (c.tell_pass.ensures.went right (subst (λ (t : TableId). Ready gate_right right t p.gate) turn ready))
