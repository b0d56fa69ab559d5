use Rattle.std.proofs.Common.{◌+◌, ◌<◌, ◌∙◌, ℕ, Some, refl, sym, subst, ap, arith}
use Rattle.ms_model.specs.Gates.{open_group, synced_group}
use Rattle.txg_gate.specs.GateState.{GateState}
use Rattle.ms_cell.specs.Passes.{Passes}
use Rattle.ms_cell.proofs.Gating.{turned_gate_by, gate_opened, keeper_synced, keeper_closed}
use Rattle.ms_cell.proofs.gates.settled_at.Goals as goal

pub prove-unreachable-requires : goal.prove-unreachable-requires
prove-unreachable-requires g c =
    let p : Passes = record { gate = c.passes.inside.gate; metaslabs = c.passes.inside.metaslabs.items } in
    let took = c.take-held in
    let x = c.value.result.now in
    let opened = gate_opened 0 c.args.cells.now p c.args.passes.now took.result x c.value.ensures c.passes.view_is c.requires.seated took.ensures.stands in
    let synced = keeper_synced c.args.cells.now p c.args.passes.now took.new.pass took.result x c.value.ensures c.passes.view_is c.requires.seated took.ensures.pass took.ensures.whole in
    omega (arith, c.if-prove.true, c.synced.ensures.group, c.requires.next, synced, ap (λ o. synced_group o x.notes) opened)

pub settled-requires-clause-next : goal.settled-requires-clause-next
settled-requires-clause-next g c =
    let p : Passes = record { gate = c.passes.inside.gate; metaslabs = c.passes.inside.metaslabs.items } in
    let took = c.take-held in
    let x = c.value_mut.result.now in
    let opened = gate_opened 0 c.args.cells.now p c.args.passes.now took.result x c.value_mut.ensures.value c.passes.view_is c.requires.seated took.ensures.stands in
    let synced = keeper_synced c.args.cells.now p c.args.passes.now took.new.pass took.result x c.value_mut.ensures.value c.passes.view_is c.requires.seated took.ensures.pass took.ensures.whole in
    c.requires.next ∙ ap (λ (k : ℕ). k + 1) (synced ∙ ap (λ o. synced_group o x.notes) (sym opened))

pub settled-requires-clause-closed : goal.settled-requires-clause-closed
settled-requires-clause-closed g c =
    let p : Passes = record { gate = c.passes.inside.gate; metaslabs = c.passes.inside.metaslabs.items } in
    let took = c.take-held in
    let x = c.value_mut.result.now in
    let y = c.value.result.now in
    let opened = gate_opened 0 c.args.cells.now p c.args.passes.now took.result x c.value_mut.ensures.value c.passes.view_is c.requires.seated took.ensures.stands in
    let other = gate_opened 0 c.args.cells.now p c.args.passes.now took.result y c.value.ensures c.passes.view_is c.requires.seated took.ensures.stands in
    let closed = keeper_closed c.args.cells.now p c.args.passes.now took.result x y c.args.group.0 c.value_mut.ensures.value c.value.ensures c.passes.view_is took.ensures.seen other c.synced.ensures.legal c.requires.closed in
    subst (λ (o : ℕ). c.args.group.0 < open_group o x.notes) (sym opened) closed

pub returns : goal.returns
returns g c =
    let p : Passes = record { gate = c.passes.inside.gate; metaslabs = c.passes.inside.metaslabs.items } in
    let took = c.take-held in
    let x = c.value_mut.result.now in
    let y = c.value.result.now in
    let other = gate_opened 0 c.args.cells.now p c.args.passes.now took.result y c.value.ensures c.passes.view_is c.requires.seated took.ensures.stands in
    turned_gate_by 0 c.args.cells.now _ p c.args.passes.now took.new.pass c.give.new.pass took.result x c.settled.new.self (Some _) c.value_mut.ensures.value c.passes.view_is c.requires.seated
    took.ensures.pass took.ensures.seen took.ensures.whole c.give.ensures.pass (ap (λ (k : GateState). k.notes) c.settled.ensures.noted) refl (
      refl,
      (
        c.requires.next ∙ ap (λ (k : ℕ). k + 1) (keeper_synced c.args.cells.now p c.args.passes.now took.new.pass took.result x c.value_mut.ensures.value c.passes.view_is c.requires.seated took.ensures.pass took.ensures.whole),
        keeper_closed c.args.cells.now p c.args.passes.now took.result x y c.args.group.0 c.value_mut.ensures.value c.value.ensures c.passes.view_is took.ensures.seen other c.synced.ensures.legal c.requires.closed,
      ),
    )
