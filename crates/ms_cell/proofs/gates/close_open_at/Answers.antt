use Rattle.std.proofs.Common.{ℕ, subst, ◌≤◌, ◌+◌, ◌++◌, ◌∙◌, [], ◌∷◌, List, Some, None, refl, sym, ap}
use Rattle.std.proofs.lemmas.List.{append-nil}
use Rattle.ms_model.specs.Gates.{open_group, synced_group}
use Rattle.ms_model.specs.declared.notes.GateNote.{GateNote}
use Rattle.ms_model.specs.declared.notes.GateNote.TheVariants.{Closed}
use Rattle.txg_gate.specs.GateState.{GateState, open_of}
use Rattle.ms_cell.specs.Passes.{Passes}
use Rattle.ms_cell.proofs.Gating.{turned_gate_by, gate_opened, may_close}
use Rattle.ms_cell.proofs.gates.close_open_at.Goals as goal

pub returns-then-is_err : goal.returns-then-is_err
returns-then-is_err g c =
    let p : Passes = record { gate = c.passes.inside.gate; metaslabs = c.passes.inside.metaslabs.items } in
    let took = c.take-held in
    let x = c.value_mut-gate.result.now in
    turned_gate_by c.args.lane c.args.cells.now _ p c.args.passes.now took.new.pass c.give.new.pass took.result x c.ready.new.self None c.value_mut-gate.ensures.value c.passes.view_is c.requires.seated
    took.ensures.pass took.ensures.seen took.ensures.whole c.give.ensures.pass (ap (λ (y : GateState). y.notes) c.ready.ensures.stays ∙ sym (append-nil x.notes)) tt refl

pub returns-in-Ok : goal.returns-in-Ok
returns-in-Ok g c =
    let p : Passes = record { gate = c.passes.inside.gate; metaslabs = c.passes.inside.metaslabs.items } in
    let took = c.take-held in
    let x = c.value_mut-gate.result.now in
    let stays = ap (λ (y : GateState). y.notes) c.ready.ensures.stays in
    let opened = gate_opened c.args.lane c.args.cells.now p c.args.passes.now took.result x c.value_mut-gate.ensures.value c.passes.view_is c.requires.seated took.ensures.stands in
    let open_is = ap (λ (y : GateState). open_group y.opened y.notes) c.ready.ensures.stays ∙ ap (λ o. open_group o x.notes) opened in
    let synced_is = ap (λ (y : GateState). synced_group y.opened y.notes) c.ready.ensures.stays ∙ ap (λ o. synced_group o x.notes) opened in
    turned_gate_by c.args.lane c.args.cells.now _ p c.args.passes.now took.new.pass c.give-in-Ok.new.pass took.result x c.close_open.new.self (Some _) c.value_mut-gate.ensures.value c.passes.view_is c.requires.seated
    took.ensures.pass took.ensures.seen took.ensures.whole c.give-in-Ok.ensures.pass (ap (λ (y : GateState). y.notes) c.in-Ok.ensures.noted ∙ ap (λ (l : List GateNote). l ++ Closed c.args.lane c.in-Ok.group ∷ []) stays) refl
    (refl, may_close _ _ _ _ _ c.in-Ok.ensures.group open_is synced_is (subst (λ (n : ℕ). open_of c.ready.new.self ≤ n + 3) c.synced.ensures.group c.synced.ensures.near.1) (λ e. let bad = c.in-Ok.ensures.many.1 e in absurd (cc)))

pub returns-in-Err : goal.returns-in-Err
returns-in-Err g c =
    let p : Passes = record { gate = c.passes.inside.gate; metaslabs = c.passes.inside.metaslabs.items } in
    let took = c.take-held in
    let x = c.value_mut-gate.result.now in
    let opened = gate_opened c.args.lane c.args.cells.now p c.args.passes.now took.result x c.value_mut-gate.ensures.value c.passes.view_is c.requires.seated took.ensures.stands in
    let open_is = ap (λ (y : GateState). open_group y.opened y.notes) c.ready.ensures.stays ∙ ap (λ o. open_group o x.notes) opened in
    let synced_is = ap (λ (y : GateState). synced_group y.opened y.notes) c.ready.ensures.stays ∙ ap (λ o. synced_group o x.notes) opened in
    turned_gate_by c.args.lane c.args.cells.now _ p c.args.passes.now took.new.pass c.give-in-Err.new.pass took.result x c.close_open.new.self None c.value_mut-gate.ensures.value c.passes.view_is c.requires.seated
    took.ensures.pass took.ensures.seen took.ensures.whole c.give-in-Err.ensures.pass (ap (λ (y : GateState). y.notes) c.in-Err.ensures.err ∙ (ap (λ (y : GateState). y.notes) c.ready.ensures.stays ∙ sym (append-nil x.notes))) tt (
      refl,
      record {
        third = sym open_is ∙ (c.in-Err.ensures.many.0 refl ∙ ap (λ k. k + 3) synced_is);
        open_is = c.in-Err.ensures.told.0 ∙ open_is;
        synced_is = c.in-Err.ensures.told.1 ∙ synced_is;
      },
    )
